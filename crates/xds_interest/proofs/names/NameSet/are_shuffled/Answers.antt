use Rattle.std.proofs.Common.{map, sym, ap, ◌∙◌}
use Rattle.std.specs.String.{string_bytes}
use Rattle.std.specs.FinSet as set
use Rattle.xds_resource.proofs.NameMaps.{texts_of}
use Rattle.xds_interest.proofs.Again.{plain_names}
use Rattle.xds_interest.proofs.names.NameSet.are_shuffled.Goals as goal

pub returns : goal.returns
returns c = λ is.
    c.are_these.ensures is ∙ ap (λ xs. set.from_list (texts_of xs)) c.deref.ensures.value
    ∙ plain_names c.args.kind (texts_of c.in-Ok.ordered.items) (map string_bytes c.args.texts.now) (sym c.has_star.ensures ∙ c.if-has_star.false) c.in-Ok.ensures.texts
