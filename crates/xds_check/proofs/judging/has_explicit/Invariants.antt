use Rattle.std.proofs.Common.{◌≡◌, map}
use Rattle.std.specs.List.{list_all}
use Rattle.std.specs.String.{string_bytes}
use Rattle.xds_check.specs.LiveNames.{has_if_live}
use Rattle.xds_check.proofs.judging.has_explicit.Given as goal

-- what is left decides
abbrev pub invariant-loop-name : goal.invariant-loop-name
invariant-loop-name g l =
    list_all (has_if_live l.catalogue.entries l.stated) (map string_bytes l.initial.name-iterator) ≡ list_all (has_if_live l.catalogue.entries l.stated) (map string_bytes l.name-iterator)
