use Rattle.std.proofs.Common.{drop, map}
use Rattle.xds_message.specs.Joined.{with_commas}
use Rattle.xds_frames.specs.Devices.{seen}
use Rattle.xds_message.proofs.PieceLemmas.{ArePut, rest_behind}
use Rattle.xds_message.proofs.pieces.put_items.Given as goal

abbrev pub invariant-loop-item : goal.invariant-loop-item
invariant-loop-item g l =
    ArePut (seen g.W.Write.contents l.fn.writer l.writer) l.fn.block.items l.block.items (rest_behind g.S.Stored.text l.later (drop l.item-index l.items)) (with_commas (map g.S.Stored.text l.items))
