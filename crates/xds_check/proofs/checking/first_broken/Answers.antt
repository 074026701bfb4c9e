use Rattle.std.proofs.Common.{arith, subst}
use Rattle.xds_check.specs.Judges.{TellsOfAll}
use Rattle.xds_check.proofs.LineByLine.{turn_first, turn_room, turn_broken, turn_more, turns_end}
use Rattle.xds_check.proofs.checking.first_broken.Goals as goal

pub loop-i-init : goal.loop-i-init
loop-i-init c = turn_first c.args.lines.now c.args.judges.now c.requires

pub take-requires-clause-room : goal.take-requires-clause-room
take-requires-clause-room c = λ t. omega (arith, c.loop-i-test.true, turn_room c.args.lines.now c.loop-i.i c.loop-i.judges c.loop-i-test.true c.loop-i.invariant t)

pub returns-in-Some-clause-ok : goal.returns-in-Some-clause-ok
returns-in-Some-clause-ok c =
    turn_broken c.args.lines.now c.loop-i.i c.index-lines-i.result c.loop-i.judges c.take.new.self c.in-Some.rule c.loop-i-test.true c.index-lines-i.is c.loop-i.invariant
    (subst (TellsOfAll c.index-lines-i.result c.loop-i.judges c.take.new.self) c.in-Some.is c.in_ok-rule.ensures.told)

pub loop-i-preserved : goal.loop-i-preserved
loop-i-preserved c =
    turn_more c.args.lines.now c.loop-i.i c.index-lines-i.result c.loop-i.judges c.take.new.self c.loop-i-test.true c.index-lines-i.is c.loop-i.invariant
    (subst (TellsOfAll c.index-lines-i.result c.loop-i.judges c.take.new.self) c.in_default.is c.in_ok-rule.ensures.told)

pub returns-clause-ok : goal.returns-clause-ok
returns-clause-ok c = turns_end c.args.lines.now c.loop-i.i c.loop-i.judges c.loop-i-test.false c.loop-i.invariant
