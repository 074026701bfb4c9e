use Rattle.std.proofs.Common.{◌≡◌, length, arith}
use Rattle.std.proofs.lemmas.Bool.Decides.{nat_tests}
use Rattle.std.proofs.lemmas.List.{nil_from_length}
use Rattle.xds_program.proofs.GivenWrites.{none_left}
use Rattle.xds_program.proofs.stamped.read_writes.Goals as goal

pub returns-then-is_empty-clause-left : goal.returns-then-is_empty-clause-left
returns-then-is_empty-clause-left c =
    let none : length c.args.input.now ≡ 0 = grind (arith, nat_tests) in
    none_left c.args.input.now c.new.result (nil_from_length c.args.input.now none) c.new.ensures
