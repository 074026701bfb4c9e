use Rattle.std.proofs.Common.{◌≡◌, map, drop, Some}
use Rattle.std.specs.String.{string_bytes}
use Rattle.xds_resource.specs.Names.{put_each}
use Rattle.xds_ledger.specs.declared.entry.Due.TheVariants.{Removed}
use Rattle.xds_check.proofs.offering.remove.Given as goal

-- what is left decides
abbrev pub invariant-loop-name : goal.invariant-loop-name
invariant-loop-name l =
    put_each (λ _. Some Removed) l.offer (map string_bytes (drop l.name-index l.removed)) ≡ put_each (λ _. Some Removed) l.initial.offer (map string_bytes l.removed)
