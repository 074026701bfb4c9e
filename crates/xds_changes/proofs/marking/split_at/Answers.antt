-- The mark that is found ends the first piece; where there is none, all is one piece.
use Rattle.std.proofs.Common.{ap, ◌∙◌}
use Rattle.std.proofs.lemmas.Str.Pattern.{split_parts}
use Rattle.xds_script.specs.Lines.{pieces}
use Rattle.xds_script.proofs.Splits.{pieces-joined, pieces-no_mark}
use Rattle.xds_changes.proofs.marking.split_at.Goals as goal

pub returns-in-Some : goal.returns-in-Some
returns-in-Some c =
    let parts = split_parts c.args.mark c.args.text.now c.split_once.result c.split_once.ensures.cases c.requires in
    let here = rw c.in-Some.is at parts in
    ap (pieces c.args.mark) here.0 ∙ pieces-joined c.args.mark c.in-Some.piece.now c.in-Some.rest.now here.1

pub returns-in-None : goal.returns-in-None
returns-in-None c =
    let parts = split_parts c.args.mark c.args.text.now c.split_once.result c.split_once.ensures.cases c.requires in
    let here = rw c.in-None.is at parts in
    pieces-no_mark c.args.mark c.args.text.now here
