use Rattle.std.proofs.Common.{◌≡◌, List, String, Global, [], map, string_bytes, sym, ap, ◌∙◌}
use Rattle.xds_ledger.specs.Lists.{with_names}
use Rattle.xds_ledger.proofs.ListedNames.{mark_of_names, listed_of_names}
use Rattle.xds_ledger.proofs.listing.put_touched.Goals as goal

pub returns-clause-mark : goal.returns-clause-mark
returns-clause-mark c =
    let all : c.loop-name.name-iterator ≡ [] = c.in-None.ensures.steps.0 in
    mark_of_names c.args.listed.now c.loop-name.listed (map string_bytes c.names-names.result)
    (sym (ap (λ (l : List (String Global)). with_names c.loop-name.listed (map string_bytes l)) all) ∙ c.loop-name.invariant
    ∙ ap (λ (l : List (String Global)). with_names c.args.listed.now (map string_bytes l)) c.into_iter-name-iterator.ensures.into_iter_gives)

pub returns-clause-names : goal.returns-clause-names
returns-clause-names c =
    let all : c.loop-name.name-iterator ≡ [] = c.in-None.ensures.steps.0 in
    listed_of_names c.args.listed.now c.loop-name.listed (map string_bytes c.names-names.result) c.args.touched.now.names c.names-names.ensures.names
    (sym (ap (λ (l : List (String Global)). with_names c.loop-name.listed (map string_bytes l)) all) ∙ c.loop-name.invariant
    ∙ ap (λ (l : List (String Global)). with_names c.args.listed.now (map string_bytes l)) c.into_iter-name-iterator.ensures.into_iter_gives)
