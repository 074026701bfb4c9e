use Rattle.std.proofs.Common.{◌≡◌, map, string_bytes}
use Rattle.xds_ledger.specs.Changes.{changes_left}
use Rattle.xds_ledger.proofs.changes.changes_left.Given as goal

-- what is left decides
abbrev pub invariant-loop-name : goal.invariant-loop-name
invariant-loop-name g l = changes_left l.interest l.beliefs l.next (map string_bytes l.name-iterator) ≡ changes_left l.interest l.beliefs l.initial.next (map string_bytes l.initial.name-iterator)
