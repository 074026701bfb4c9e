use Rattle.std.proofs.Common.{◌≡◌, ◌++◌, length}
use Rattle.std.specs.Vec.Iter.{into_iter_items, into_iter_len}
use Rattle.xds_node.specs.Holdings.{with_shares}
use Rattle.xds_node.specs.Pieces.{piece_entries, piece_before}
use Rattle.xds_node.proofs.node.history.share.Given as goal

abbrev pub invariant-loop-segment : goal.invariant-loop-segment
invariant-loop-segment g l = record {
  given : l.token ≡ with_shares piece_before piece_entries l.initial.token l.yielded;
  all : l.yielded ++ into_iter_items l.segment-iterator ≡ l.fn.segments.items;
  counted : into_iter_len l.segment-iterator ≡ length (into_iter_items l.segment-iterator);
}
