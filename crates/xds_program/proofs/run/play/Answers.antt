use Rattle.std.proofs.Common.{rules, refl, subst}
use Rattle.std.proofs.KnownBytes.{Keeps-refl}
use Rattle.xds_play.specs.Played.{IsUnplayed}
use Rattle.xds_program.specs.Outcomes.{IsBadLine, IsPlayedFor}
use Rattle.xds_program.proofs.Telling.{fault_told, no_room, not_read, text_begun}
use Rattle.xds_program.proofs.run.play.Goals as goal

pub returns-in-Err : goal.returns-in-Err
returns-in-Err g c = not_read (IsPlayedFor c.args.trace) IsBadLine _ _ _ _ _ c.in-Err.ensures.refused (Keeps-refl _) c.tell_input.ensures.told c.tell_input.ensures.status

pub returns-in-Err-OutOfMemory : goal.returns-in-Err-OutOfMemory
returns-in-Err-OutOfMemory g c = no_room (IsPlayedFor c.args.trace) IsBadLine _ _ _ _ (Keeps-refl _) c.tell.ensures.told c.tell.ensures.status

pub returns-in-Err-BadScript : goal.returns-in-Err-BadScript
returns-in-Err-BadScript g c =
    let bad = subst (IsUnplayed c.as_slice.result.now) c.in-Err-BadScript.field-0-is c.in-Err-BadScript.ensures.unplayed in
    fault_told (IsPlayedFor c.args.trace) IsBadLine _ _ _ _ c.as_slice.result.now _ _ _ c.in-Ok.ensures.read (search rules) (refl, bad) c.tell_fault.ensures.told (Keeps-refl _) c.tell_fault.ensures.status

pub returns-in-Err-script_picture : goal.returns-in-Err-script_picture
returns-in-Err-script_picture g c = no_room (IsPlayedFor c.args.trace) IsBadLine _ _ _ _ (Keeps-refl _) c.tell-in-Err-script_picture.ensures.told c.tell-in-Err-script_picture.ensures.status

pub returns : goal.returns
returns g c =
    text_begun (IsPlayedFor c.args.trace) IsBadLine _ _ _ _ _ _ _ _ _ c.in-Ok.ensures.read (search rules) c.in-Ok-played.ensures.played (search rules) c.in-Err-write_whole.ensures.failed
    c.tell_output.ensures.told c.tell_output.ensures.status
