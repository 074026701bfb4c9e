use Rattle.std.proofs.Common.{arith}
use Rattle.std.proofs.lemmas.Str.Pattern.{split_parts}
use Rattle.xds_script.proofs.Wording.{split_first-space, split_first-all}
use Rattle.xds_script.proofs.words.Words.split_first.Goals as goal

pub returns-in-Some : goal.returns-in-Some
returns-in-Some c =
    let was = c.in_ok-line.was in
    let parts = split_parts 32 c.in_ok-line.line.now c.split_once.result c.split_once.ensures.cases (omega arith) in
    let here = rw c.in-Some.is at parts in
    split_first-space c.in_ok-line.line.now c.in-Some.word.now c.in-Some.rest.now c.args.self (rw was at c.self.view_is) here

pub returns-in-None : goal.returns-in-None
returns-in-None c =
    let was = c.in_ok-line.was in
    let parts = split_parts 32 c.in_ok-line.line.now c.split_once.result c.split_once.ensures.cases (omega arith) in
    let here = rw c.in-None.is at parts in
    split_first-all c.in_ok-line.line.now c.args.self (rw was at c.self.view_is) here
