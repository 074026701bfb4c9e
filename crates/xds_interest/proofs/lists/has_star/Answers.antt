use Rattle.std.proofs.Common.{map, ◌&&◌, sym, ap, ◌∙◌}
use Rattle.std.specs.String.{string_bytes}
use Rattle.xds_interest.specs.Interests.{star_text, has_name}
use Rattle.xds_interest.proofs.SotwLaws.{list_any-is_star}
use Rattle.xds_interest.proofs.lists.has_star.Goals as goal

pub returns-else-is_complete : goal.returns-else-is_complete
returns-else-is_complete c =
    let texts = map string_bytes c.args.texts.now in
    c.if-is_complete.false ∙ sym (list_any-is_star c.args.kind texts ∙ ap (λ b. b && has_name texts star_text) (sym c.is_complete.ensures ∙ c.if-is_complete.false))
