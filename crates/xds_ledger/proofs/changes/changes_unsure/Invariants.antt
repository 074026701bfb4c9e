use Rattle.std.proofs.Common.{◌≡◌, map, string_bytes}
use Rattle.xds_ledger.specs.Changes.{changes_unsure}
use Rattle.xds_ledger.proofs.changes.changes_unsure.Given as goal

-- what is left decides
abbrev pub invariant-loop-name : goal.invariant-loop-name
invariant-loop-name g l = changes_unsure l.interest l.touched l.next (map string_bytes l.name-iterator) ≡ changes_unsure l.interest l.touched l.initial.next (map string_bytes l.initial.name-iterator)
