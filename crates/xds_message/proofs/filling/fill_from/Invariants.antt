use Rattle.std.proofs.Common.{◌≡◌, ◌≤◌, ◌+◌, ◌++◌, length, drop, vec_capacity}
use Rattle.xds_message.specs.Unsent.{IsPlaceIn, left_at}
use Rattle.xds_message.proofs.filling.fill_from.Given as goal

abbrev pub invariant-loop-at : goal.invariant-loop-at
invariant-loop-at g l =
    (l.block.items ++ left_at g.S.Stored.text l.items l.at ≡ l.initial.block.items ++ left_at g.S.Stored.text l.items l.initial.at)
    × IsPlaceIn g.S.Stored.text l.items l.at × (vec_capacity l.initial.block ≤ vec_capacity l.block)

abbrev pub decreases-loop-at : goal.decreases-loop-at
decreases-loop-at g l = length (left_at g.S.Stored.text l.items l.at) + length (drop l.at.next l.items)
