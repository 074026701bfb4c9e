use Rattle.std.proofs.Common.{◌≡◌, length}
use Rattle.std.specs.Vec.Iter.{into_iter_items, into_iter_len}
use Rattle.xds_catalogue.specs.Tables.{IsSoundBut, former_numbers, held_by}
use Rattle.xds_catalogue.proofs.batch.drop_former.Given as goal

abbrev pub invariant-loop-change : goal.invariant-loop-change
invariant-loop-change g l = record {
  sound : IsSoundBut (former_numbers (into_iter_items l.change-iterator)) l.tables;
  held : held_by l.tables ≡ held_by l.initial.tables;
  counted : into_iter_len l.change-iterator ≡ length (into_iter_items l.change-iterator);
}
