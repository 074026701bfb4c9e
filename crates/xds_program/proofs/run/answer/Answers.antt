use Rattle.std.proofs.Common.{rules}
use Rattle.std.proofs.KnownBytes.{Keeps-refl}
use Rattle.xds_program.specs.Faults.{IsAnswer, IsFault}
use Rattle.xds_program.proofs.Telling.{fault_told, not_read, text_unwritten, text_written}
use Rattle.xds_program.proofs.run.answer.Goals as goal

pub returns-in-Err : goal.returns-in-Err
returns-in-Err g c = not_read (IsAnswer c.args.replica) IsFault _ _ _ _ _ c.in-Err.ensures.refused (Keeps-refl _) c.tell_input.ensures.told c.tell_input.ensures.status

pub returns-in-Ok-draft_answer : goal.returns-in-Ok-draft_answer
returns-in-Ok-draft_answer g c =
    text_unwritten (IsAnswer c.args.replica) IsFault _ _ _ _ _ _ _ _ _ c.in-Ok.ensures.read (search rules) c.in-Ok-draft_answer.ensures.answered (search rules) c.in-Err-write_answer.ensures.refused
    c.tell_output.ensures.told c.tell_output.ensures.status

pub returns-in-Ok-write_answer : goal.returns-in-Ok-write_answer
returns-in-Ok-write_answer g c =
    text_written (IsAnswer c.args.replica) IsFault _ _ _ _ _ _ _ c.in-Ok.ensures.read (search rules) c.in-Ok-draft_answer.ensures.answered (search rules) c.in-Ok-write_answer.ensures.written (Keeps-refl _)

pub returns : goal.returns
returns g c =
    fault_told (IsAnswer c.args.replica) IsFault _ _ _ _ _ _ _ _ c.in-Ok.ensures.read (search rules) c.in-Err-draft_answer.ensures.refused c.tell_fault.ensures.told (Keeps-refl _) c.tell_fault.ensures.status
