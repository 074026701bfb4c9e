use Rattle.std.proofs.Common.{◌≡◌, ◌++◌, length, map}
use Rattle.std.specs.Vec.Iter.{into_iter_items, into_iter_len}
use Rattle.xds_core.specs.Streams as streams
use Rattle.xds_core.specs.Seen.{message_of}
use Rattle.xds_world.proofs.client.delta_requests.Given as goal

abbrev pub invariant-loop-request : goal.invariant-loop-request
invariant-loop-request l =
    (map message_of l.queue.items ++ map streams.Delta (into_iter_items l.request-iterator) ≡ map streams.Delta l.fn.requests.items)
    × (into_iter_len l.request-iterator ≡ length (into_iter_items l.request-iterator))
