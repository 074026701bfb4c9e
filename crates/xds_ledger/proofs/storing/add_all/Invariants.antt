use Rattle.std.proofs.Common.{◌≡◌, Some, None, map, drop}
use Rattle.xds_resource.specs.Names.{put_each}
use Rattle.xds_ledger.specs.Storing.{removed_all}
use Rattle.xds_ledger.proofs.storing.add_all.Given as goal

-- what is left decides, and what was added can be taken out
abbrev pub invariant-loop-name : goal.invariant-loop-name
invariant-loop-name l =
    (put_each (λ name. Some None) l.differences (map (λ n. n.now) (drop l.name-index l.names)) ≡ put_each (λ name. Some None) l.initial.differences (map (λ n. n.now) l.names))
    × (removed_all l.differences (map (λ n. n.now) l.names) ≡ l.initial.differences)
