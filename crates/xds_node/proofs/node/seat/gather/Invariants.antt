use Rattle.std.proofs.Common.{◌≡◌, ◌++◌, length}
use Rattle.std.specs.Vec.Iter.{into_iter_items, into_iter_len}
use Rattle.xds_node.specs.Holdings.{with_seats}
use Rattle.xds_node.proofs.node.seat.gather.Given as goal

abbrev pub invariant-loop-seat : goal.invariant-loop-seat
invariant-loop-seat g l = record {
  given : l.token ≡ with_seats (λ s. s.told) (λ s. s.refused) l.initial.token l.yielded;
  all : l.yielded ++ into_iter_items l.seat-iterator ≡ l.fn.seats.items;
  counted : into_iter_len l.seat-iterator ≡ length (into_iter_items l.seat-iterator);
}
