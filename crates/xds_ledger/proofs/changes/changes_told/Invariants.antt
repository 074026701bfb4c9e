use Rattle.std.proofs.Common.{◌≡◌, Some}
use Rattle.std.specs.FinMap as finmap
use Rattle.xds_resource.specs.Names.{pairs, put_all}
use Rattle.xds_ledger.specs.Believing.{was_touched}
use Rattle.xds_ledger.specs.Parts.{told_unless_touched}
use Rattle.xds_ledger.proofs.changes.changes_told.Given as goal

-- what is left decides
abbrev pub invariant-loop-name : goal.invariant-loop-name
invariant-loop-name l =
    put_all (λ name due. Some (told_unless_touched (was_touched l.sent name) due)) l.changes (pairs l.name-iterator)
    ≡ put_all (λ name due. Some (told_unless_touched (was_touched l.sent name) due)) finmap.empty (finmap.entries l.sent.offer)
