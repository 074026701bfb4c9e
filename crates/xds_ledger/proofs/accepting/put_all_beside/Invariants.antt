use Rattle.std.proofs.Common.{◌≡◌}
use Rattle.std.specs.FinMap as finmap
use Rattle.xds_resource.specs.Names.{pairs, put_all}
use Rattle.xds_ledger.specs.Accepting.{beside}
use Rattle.xds_ledger.proofs.accepting.put_all_beside.Given as goal

-- what is left decides
abbrev pub invariant-loop-name : goal.invariant-loop-name
invariant-loop-name l = put_all (beside l.sent) l.next (pairs l.name-iterator) ≡ put_all (beside l.sent) l.initial.next (finmap.entries l.beliefs)
