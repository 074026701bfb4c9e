use Rattle.std.proofs.Common.{◌≡◌, ◌++◌, length, map}
use Rattle.std.specs.Vec.Iter.{into_iter_items, into_iter_len}
use Rattle.xds_changes.specs.Changes.{change_of}
use Rattle.xds_changes.specs.Handing.{AllHanded}
use Rattle.xds_changes.proofs.input.hand_all.Given as goal

abbrev pub invariant-loop-change : goal.invariant-loop-change
invariant-loop-change g l = record {
  given : AllHanded (g.H.Hands.hands) l.initial.hands l.hands (map change_of l.yielded);
  all : l.yielded ++ into_iter_items l.change-iterator ≡ l.fn.changes.items;
  counted : into_iter_len l.change-iterator ≡ length (into_iter_items l.change-iterator);
}
