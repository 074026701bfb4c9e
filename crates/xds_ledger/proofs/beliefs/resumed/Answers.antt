use Rattle.std.proofs.Common.{◌≡◌, ℕ, List, [], map, drop, sym, ap, ◌∙◌}
use Rattle.std.proofs.lemmas.List.{drop_all}
use Rattle.xds_resource.specs.Names.{put_all}
use Rattle.std.specs.FinMap.{entries-from_sorted}
use Rattle.xds_resource.specs.Writes.{text_cmp}
use Rattle.xds_ledger.specs.Believing.{versions_of}
use Rattle.xds_ledger.specs.Parts.{told_as}
use Rattle.xds_ledger.proofs.Made.{resumed_made}
use Rattle.xds_ledger.proofs.beliefs.resumed.Goals as goal

pub returns-clause-ok : goal.returns-clause-ok
returns-clause-ok c =
    let pairs : List (List ℕ × List ℕ) = map (λ p. (p.0.now, p.1.now)) c.args.versions.now in
    let all : drop c.loop-name.name-index c.args.versions.now ≡ [] = drop_all c.loop-name.name-index c.args.versions.now c.loop-name-test.false in
    sym (ap (λ l. put_all told_as c.loop-name.next (map (λ p. (p.0.now, p.1.now)) l)) all) ∙ c.loop-name.invariant
    ∙ ap (put_all told_as c.args.beliefs) (sym (entries-from_sorted text_cmp pairs c.requires.sorted)) ∙ resumed_made (versions_of pairs) c.args.beliefs
