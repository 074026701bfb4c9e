use Rattle.std.proofs.Common.{◌≡◌, map, drop}
use Rattle.std.specs.FinMap as finmap
use Rattle.xds_ledger.specs.OfferParts.{put_writes, stated}
use Rattle.xds_ledger.proofs.offers.all_stated.Given as goal

-- what is left decides
abbrev pub invariant-loop-write : goal.invariant-loop-write
invariant-loop-write g l = put_writes stated l.said (map (λ w. w.now) (drop l.write-index l.writes)) ≡ put_writes stated finmap.empty (map (λ w. w.now) l.writes)
