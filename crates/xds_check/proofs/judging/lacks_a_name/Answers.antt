use Rattle.std.proofs.Common.{◌≡◌, List, map, true, not, sym, ap, ◌∙◌, rules}
use Rattle.std.specs.Prelude.{◌&&◌}
use Rattle.xds_interest.specs.Interests.{has_name}
use Rattle.xds_catalogue.specs.Content.{content}
use Rattle.xds_ledger.specs.Variants.{is_whole}
use Rattle.xds_check.specs.Answers.{Statement, stated_names}
use Rattle.xds_check.specs.Kept.{lacks_one}
use Rattle.xds_check.proofs.LiveNames.{judged}
use Rattle.xds_check.proofs.judging.lacks_a_name.Goals as goal

pub returns-clause-ok : goal.returns-clause-ok
returns-clause-ok g c =
    let whole : c.is_whole.result ≡ true = search rules in
    let m = c.args.catalogue.now.entries in
    let s = c.args.interest.now in
    let names = stated_names c.args.answer.now in
    ap not c.has_shown.ensures
    ∙ judged m c.args.live_names.now s c.in_ok-stated.stated c.requires names (λ q. c.in_ok-stated.ensures.ok q ∙ ap (λ (xs : List Statement). has_name (map (λ x. x.name) xs) q) c.statements.ensures)
    ∙ sym (ap (λ b. b && lacks_one names (content m s)) ((λ i. is_whole (sym c.variant.ensures i) (sym c.TYPE.ensures i)) ∙ sym c.is_whole.ensures ∙ whole))
