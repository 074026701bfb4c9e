use Rattle.std.proofs.Common.{None, refl}
use Rattle.xds_check.proofs.LineByLine.{taken_none}
use Rattle.xds_check.proofs.checker.Checker.new.Goals as goal

pub returns : goal.returns
returns c = taken_none (record { order = c.new.result; judges = c.new-2.result; broken = None; taken = 0 }) c.new.ensures c.new-2.ensures refl refl
