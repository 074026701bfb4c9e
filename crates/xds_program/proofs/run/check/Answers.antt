use Rattle.std.proofs.Common.{rules, subst}
use Rattle.std.proofs.KnownBytes.{Keeps-refl}
use Rattle.xds_program.specs.Judged.{IsUnread}
use Rattle.xds_program.proofs.JudgedInput.{told_bad}
use Rattle.xds_program.proofs.Behind.{prints_only}
use Rattle.xds_program.proofs.Judging.{bad_line_told, unjudged, unread, verdict_told}
use Rattle.xds_program.proofs.run.check.Goals as goal

pub returns-in-Ok : goal.returns-in-Ok
returns-in-Ok g c = verdict_told _ _ _ _ _ _ _ c.in-Ok.ensures.judged (search rules) (prints_only _ _ _ _ _ _ _ c.print_or_tell.ensures)

pub returns-in-Err-Device : goal.returns-in-Err-Device
returns-in-Err-Device g c = unread _ _ _ _ (subst (IsUnread _ _ _) c.in-Err-Device.field-0-is c.in-Err-Device.ensures.unjudged) (Keeps-refl _) c.tell_input.ensures.told c.tell_input.ensures.status

pub returns-in-Err-Unjudged-OutOfMemory : goal.returns-in-Err-Unjudged-OutOfMemory
returns-in-Err-Unjudged-OutOfMemory g c = unjudged _ _ _ _ (Keeps-refl _) c.tell.ensures.told c.tell.ensures.status

pub returns : goal.returns
returns g c =
    let it = c.in-Err-Unjudged-BadTrace in
    let bad = told_bad (g.I.Read.remaining c.args.input.now.inner) c.args.input.now.failed c.judge_input.new.input.failed it.field-0 it.field-0-0 it.line it.field-0-is it.field-0-0-is it.ensures.unjudged in
    bad_line_told _ _ _ it.line _ bad c.tell_fault.ensures.told (Keeps-refl _) c.tell_fault.ensures.status
