use Rattle.std.proofs.Common.{◌≡◌, map, drop, true}
use Rattle.std.specs.String.{string_bytes}
use Rattle.xds_check.specs.Kept.{without_each}
use Rattle.xds_check.proofs.marks.unmark.Given as goal

-- what is left decides
abbrev pub invariant-loop-name : goal.invariant-loop-name
invariant-loop-name l =
    without_each (λ _. true) l.marks (map string_bytes (drop l.name-index l.names)) ≡ without_each (λ _. true) l.initial.marks (map string_bytes l.names)
