use Rattle.std.proofs.Common.{◌≡◌, map, drop}
use Rattle.std.specs.String.{string_bytes}
use Rattle.xds_check.specs.Kept.{left_marks}
use Rattle.xds_check.proofs.marks.leave.Given as goal

-- what is left decides
abbrev pub invariant-loop-name : goal.invariant-loop-name
invariant-loop-name l =
    left_marks (map string_bytes l.subscribe) l.marks (map string_bytes (drop l.name-index l.unsubscribe)) ≡ left_marks (map string_bytes l.subscribe) l.initial.marks (map string_bytes l.unsubscribe)
