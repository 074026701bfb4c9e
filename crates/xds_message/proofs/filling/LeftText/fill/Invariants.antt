use Rattle.std.proofs.Common.{◌≡◌, ◌≤◌, ◌++◌, length, vec_capacity}
use Rattle.xds_message.proofs.filling.LeftText.fill.Given as goal

abbrev pub invariant-loop-self : goal.invariant-loop-self
invariant-loop-self l = (l.block.items ++ l.self ≡ l.initial.block.items ++ l.initial.self) × (vec_capacity l.initial.block ≤ vec_capacity l.block)

abbrev pub decreases-loop-self : goal.decreases-loop-self
decreases-loop-self l = length l.self
