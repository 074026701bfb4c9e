use Rattle.std.proofs.Common.{arith, ◌∙◌}
use Rattle.std.proofs.lemmas.Str.Pattern.{find_char}
use Rattle.xds_causes.proofs.Lining.{at_brace, no_brace}
use Rattle.xds_causes.proofs.script_lines.from_brace.Goals as goal

pub returns-in-Some : goal.returns-in-Some
returns-in-Some c =
    let place = find_char 123 c.args.text.now c.find.result c.find.ensures.cases (omega arith) in
    let here = rw c.in-Some.is at place in
    c.range_from.ensures.value ∙ at_brace c.args.text.now c.in-Some.start here

pub returns-in-None : goal.returns-in-None
returns-in-None c =
    let place = find_char 123 c.args.text.now c.find.result c.find.ensures.cases (omega arith) in
    let none = rw c.in-None.is at place in
    no_brace c.args.text.now none
