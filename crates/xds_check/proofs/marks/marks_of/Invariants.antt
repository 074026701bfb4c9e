use Rattle.std.proofs.Common.{◌≡◌, map, drop, Some, true}
use Rattle.std.specs.String.{string_bytes}
use Rattle.std.specs.FinMap as finmap
use Rattle.xds_resource.specs.Names.{put_each}
use Rattle.xds_check.proofs.marks.marks_of.Given as goal

-- what is left decides
abbrev pub invariant-loop-name : goal.invariant-loop-name
invariant-loop-name l =
    put_each (λ _. Some true) l.marks (map string_bytes (drop l.name-index l.names)) ≡ put_each (λ _. Some true) finmap.empty (map string_bytes l.names)
