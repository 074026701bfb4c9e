use Rattle.std.proofs.Common.{◌≡◌, map, string_bytes}
use Rattle.xds_resource.specs.Names.{put_each}
use Rattle.xds_ledger.specs.Accepting.{change_since}
use Rattle.xds_ledger.proofs.accepting.put_each_since.Given as goal

-- what is left decides
abbrev pub invariant-loop-name : goal.invariant-loop-name
invariant-loop-name l = put_each (change_since l.sent l.beliefs) l.next (map string_bytes l.name-iterator) ≡ put_each (change_since l.sent l.beliefs) l.initial.next (map string_bytes l.initial.name-iterator)
