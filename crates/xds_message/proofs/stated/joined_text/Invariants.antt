use Rattle.std.proofs.Common.{◌≡◌, ◌++◌, drop, map, string_bytes}
use Rattle.xds_message.specs.Joined.{with_commas}
use Rattle.xds_message.proofs.PieceLemmas.{rest_behind}
use Rattle.xds_message.proofs.stated.joined_text.Given as goal

abbrev pub invariant-loop-item : goal.invariant-loop-item
invariant-loop-item g l = string_bytes l.out ++ rest_behind g.S.Stored.text l.later (drop l.item-index l.items) ≡ with_commas (map g.S.Stored.text l.items)
