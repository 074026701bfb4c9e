use Rattle.std.proofs.Common.{◌≡◌, length}
use Rattle.xds_catalogue.specs.Tables.{all_taken_back}
use Rattle.xds_catalogue.proofs.batch.take_all_back.Given as goal

abbrev pub invariant-loop-last : goal.invariant-loop-last
invariant-loop-last g l = all_taken_back l.tables l.left.items ≡ all_taken_back l.initial.tables l.initial.left.items

abbrev pub decreases-loop-last : goal.decreases-loop-last
decreases-loop-last g l = length l.left.items
