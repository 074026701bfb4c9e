use Rattle.std.proofs.Common.{◌≡◌, map, Some, true}
use Rattle.std.specs.String.{string_bytes}
use Rattle.std.specs.FinMap as finmap
use Rattle.xds_resource.specs.Names.{put_each}
use Rattle.xds_check.proofs.marks.explicit_names.Given as goal

-- what is left decides
abbrev pub invariant-loop-name : goal.invariant-loop-name
invariant-loop-name g l =
    put_each (λ _. Some true) l.marks (map string_bytes l.name-iterator) ≡ put_each (λ _. Some true) finmap.empty (map string_bytes l.initial.name-iterator)
