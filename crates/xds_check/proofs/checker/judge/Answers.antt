use Rattle.std.proofs.Common.{◌+◌, refl, sym, ◌∙◌, subst, arith}
use Rattle.xds_check.specs.Judges.{TellsOfAll}
use Rattle.xds_check.proofs.LineByLine.{still_broken, unbroken, judged_room, judged_told, judged_still}
use Rattle.xds_check.proofs.checker.judge.Goals as goal

pub returns-then-is_some-clause-judged : goal.returns-then-is_some-clause-judged
returns-then-is_some-clause-judged c = λ lines count follows judged.
    still_broken lines c.args.line.now c.args.judges.now c.args.judges.now c.args.broken.now (sym c.is_some.ensures ∙ c.if-is_some.true) judged

pub take-requires-clause-room : goal.take-requires-clause-room
take-requires-clause-room c = λ t.
    let lines = c.requires.judged.0 in
    let before = unbroken lines c.args.judges.now c.args.broken.now (sym c.is_some.ensures ∙ c.if-is_some.false) c.requires.judged.2 in
    omega (arith, c.requires.few, c.requires.judged.1, judged_room lines c.args.judges.now before t)

pub returns-in-Some-clause-judged : goal.returns-in-Some-clause-judged
returns-in-Some-clause-judged c = λ lines count follows judged.
    let before = unbroken lines c.args.judges.now c.args.broken.now (sym c.is_some.ensures ∙ c.if-is_some.false) judged in
    let told = subst (TellsOfAll c.args.line.now c.args.judges.now c.take.new.self) c.in-Some.is c.in_ok-rule.ensures.told in
    judged_told lines c.args.line.now c.args.judges.now follows c.take.new.self c.args.taken (record { line = c.args.taken + 1; rule = c.in-Some.rule }) count before told refl c.take.new.self

pub returns-clause-judged : goal.returns-clause-judged
returns-clause-judged c = λ lines count follows judged.
    let told = subst (TellsOfAll c.args.line.now c.args.judges.now c.take.new.self) c.in_default.is c.in_ok-rule.ensures.told in
    judged_still lines c.args.line.now c.args.judges.now c.take.new.self c.let_go.new.judges c.args.broken.now follows (sym c.is_some.ensures ∙ c.if-is_some.false) judged told c.let_go.ensures
