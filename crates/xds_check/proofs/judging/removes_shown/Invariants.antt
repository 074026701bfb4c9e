use Rattle.std.proofs.Common.{◌≡◌, map, drop}
use Rattle.std.specs.String.{string_bytes}
use Rattle.std.specs.List.{list_any}
use Rattle.xds_check.specs.Kept.{is_shown_in}
use Rattle.xds_check.proofs.judging.removes_shown.Given as goal

-- what is left decides
abbrev pub invariant-loop-name : goal.invariant-loop-name
invariant-loop-name g l =
    list_any (is_shown_in l.catalogue.entries l.interest) (map string_bytes l.removed) ≡ list_any (is_shown_in l.catalogue.entries l.interest) (map string_bytes (drop l.name-index l.removed))
