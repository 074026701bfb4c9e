use Rattle.std.proofs.Common.{◌≡◌}
use Rattle.std.specs.FinMap as finmap
use Rattle.xds_resource.specs.Names.{pairs, put_all}
use Rattle.xds_ledger.specs.Overlay.{unless_changed}
use Rattle.xds_ledger.proofs.flat.unchanged.Given as goal

-- what is left decides
abbrev pub invariant-loop-name : goal.invariant-loop-name
invariant-loop-name l = put_all (unless_changed l.changed) l.all (pairs l.name-iterator) ≡ put_all (unless_changed l.changed) finmap.empty (finmap.entries l.offer)
