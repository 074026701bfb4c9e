use Rattle.std.proofs.Common.{◌≡◌}
use Rattle.std.specs.FinMap as finmap
use Rattle.xds_resource.specs.Names.{pairs, put_all}
use Rattle.xds_ledger.proofs.Copied.{itself}
use Rattle.xds_ledger.proofs.differences.Differences.try_copy.Given as goal

-- what is left decides
abbrev pub invariant-loop-name : goal.invariant-loop-name
invariant-loop-name l = put_all itself l.copy (pairs l.name-iterator) ≡ put_all itself finmap.empty (finmap.entries l.self)
