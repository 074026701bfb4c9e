use Rattle.std.proofs.Common.{arith, refl, sym}
use Rattle.std.proofs.lemmas.Str.Pattern.{split_parts}
use Rattle.xds_script.specs.Words.{words}
use Rattle.xds_script.proofs.Wording.{split_first-space, split_first-all}
use Rattle.xds_causes.proofs.cause.first_word.Goals as goal

pub returns-in-Some : goal.returns-in-Some
returns-in-Some c =
    let parts = split_parts 32 c.args.text.now c.split_once.result c.split_once.ensures.cases (omega arith) in
    let here = rw c.in-Some.is at parts in
    sym (split_first-space c.args.text.now c.in-Some.word.now c.in-Some.rest.now (words c.args.text.now) refl here)

pub returns-in-None : goal.returns-in-None
returns-in-None c =
    let parts = split_parts 32 c.args.text.now c.split_once.result c.split_once.ensures.cases (omega arith) in
    let here = rw c.in-None.is at parts in
    sym (split_first-all c.args.text.now (words c.args.text.now) refl here)
