use Rattle.std.proofs.Common.{◌≡◌, List, String, Global, [], map, string_bytes, sym, ap, ◌∙◌}
use Rattle.xds_ledger.specs.Changes.{changes_left}
use Rattle.xds_ledger.proofs.changes.changes_left.Goals as goal

pub returns-clause-ok : goal.returns-clause-ok
returns-clause-ok g c =
    let all : c.loop-name.name-iterator ≡ [] = c.in-None.ensures.steps.0 in
    sym (ap (λ l. changes_left c.args.interest.now c.args.beliefs.now c.loop-name.next (map string_bytes l)) all) ∙ c.loop-name.invariant
    ∙ ap (λ (l : List (String Global)). changes_left c.args.interest.now c.args.beliefs.now c.args.changes (map string_bytes l)) c.into_iter-name-iterator.ensures.into_iter_gives
