use Rattle.std.proofs.Common.{◌≡◌, ◌≤◌, take, map, All}
use Rattle.std.specs.List.{sum_by}
use Rattle.xds_message.specs.Batches.{IsSound}
use Rattle.xds_exchange.specs.Parts.{typed_write, weight, max_writes, max_bytes}
use Rattle.xds_exchange.proofs.outbox.part_len.Given as goal

abbrev pub invariant-loop-write : goal.invariant-loop-write
invariant-loop-write l =
    (l.len ≡ l.write-index) × (l.len ≤ max_writes) × (l.bytes ≡ sum_by weight (map typed_write (take l.write-index l.writes))) × (l.bytes ≤ max_bytes) × All IsSound (map typed_write (take l.write-index l.writes))
