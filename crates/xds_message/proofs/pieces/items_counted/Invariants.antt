use Rattle.std.proofs.Common.{◌≡◌, ◌≤◌, ◌+◌, drop, length, map}
use Rattle.xds_message.specs.Joined.{with_commas}
use Rattle.xds_message.proofs.PieceLemmas.{rest_behind}
use Rattle.xds_message.proofs.pieces.items_counted.Given as goal

-- what is counted, and what is left to be counted
abbrev pub invariant-loop-item : goal.invariant-loop-item
invariant-loop-item g l =
    (l.all + length (rest_behind g.S.Stored.text l.later (drop l.item-index l.items)) ≡ l.count + length (with_commas (map g.S.Stored.text l.items))) × (l.all ≤ l.limit)
