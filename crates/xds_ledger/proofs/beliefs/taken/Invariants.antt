use Rattle.std.proofs.Common.{◌≡◌, map, string_bytes}
use Rattle.xds_resource.specs.Names.{put_each}
use Rattle.xds_ledger.specs.Parts.{made_unsure}
use Rattle.xds_ledger.proofs.beliefs.taken.Given as goal

-- what is left decides
abbrev pub invariant-loop-name : goal.invariant-loop-name
invariant-loop-name g l = put_each (made_unsure l.interest l.touched) l.next (map string_bytes l.name-iterator) ≡ put_each (made_unsure l.interest l.touched) l.initial.next (map string_bytes l.initial.name-iterator)
