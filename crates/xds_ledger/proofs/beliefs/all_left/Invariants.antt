use Rattle.std.proofs.Common.{◌≡◌}
use Rattle.std.specs.FinMap as finmap
use Rattle.xds_resource.specs.Names.{pairs, put_all}
use Rattle.xds_ledger.specs.Parts.{left_by}
use Rattle.xds_ledger.proofs.beliefs.all_left.Given as goal

-- what is left decides
abbrev pub invariant-loop-name : goal.invariant-loop-name
invariant-loop-name g l = put_all (left_by l.interest l.touched) l.next (pairs l.name-iterator) ≡ put_all (left_by l.interest l.touched) finmap.empty (finmap.entries l.beliefs)
