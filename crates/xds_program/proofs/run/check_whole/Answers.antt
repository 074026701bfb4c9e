use Rattle.std.proofs.Common.{rules, subst}
use Rattle.std.proofs.KnownBytes.{Keeps-refl}
use Rattle.xds_program.specs.Judged.{IsUnjudged}
use Rattle.xds_program.proofs.Behind.{bad_line_told, no_room, not_read, verdict_told}
use Rattle.xds_program.proofs.run.check_whole.Goals as goal

pub returns-in-Err : goal.returns-in-Err
returns-in-Err g c = not_read _ _ _ _ _ _ _ _ c.in-Err.ensures.refused (Keeps-refl _) c.tell_input.ensures.told c.tell_input.ensures.status

pub returns-in-Ok-told_of : goal.returns-in-Ok-told_of
returns-in-Ok-told_of g c = verdict_told _ _ _ _ _ _ _ _ _ _ _ _ _ c.in-Ok.ensures.read (search rules) c.in-Ok-told_of.ensures.told (search rules) c.print_or_tell.ensures

pub returns-in-Err-OutOfMemory : goal.returns-in-Err-OutOfMemory
returns-in-Err-OutOfMemory g c = no_room _ _ _ _ _ _ _ (Keeps-refl _) c.tell.ensures.told c.tell.ensures.status

pub returns : goal.returns
returns g c =
    let it = c.in-Err-BadTrace in
    bad_line_told _ _ _ _ _ _ _ _ it.line _ c.in-Ok.ensures.read (search rules) (subst (IsUnjudged _) it.field-0-is it.ensures.untold) c.tell_fault.ensures.told (Keeps-refl _) c.tell_fault.ensures.status
