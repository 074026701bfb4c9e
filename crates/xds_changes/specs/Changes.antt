-- What a line of the server's input changes. This project's own.
--     Written                          a replica's number, and what happens there
--     change_of                        what a change makes happen, and where
--     write_of                         the write that a happening is, if it is one
--     written_by                       the same of what a line of a script says
--     change_said                      the same of a command
--     only_change                      what a line says has to be a change, if it says anything
--     most_line                        as many bytes as a line may have
--     change_within                    what a line changes that isn't longer; none where it is skipped
--     change_in                        what a line changes; none where it is skipped
use Rattle.std.specs.Prelude.{ℕ, List, length, nat_lt, if◌then◌else◌, Option, Some, None, Result, Ok, Err, option_map}
use Rattle.std.specs.Option.{ok_or}
use Rattle.xds_resource.specs.declared.refusal.Refusal.{Refusal}
use Rattle.xds_resource.specs.declared.refusal.Refusal.TheVariants.{BadScript, TooLong}
use Rattle.xds_events.specs.Events as events
use Rattle.xds_events.specs.Events.{Event}
use Rattle.xds_events.specs.Seen.{event_of}
use Rattle.xds_script.specs.Happenings.{Happening}
use Rattle.xds_script.specs.Happenings as happenings
use Rattle.xds_script.specs.declared.command.Command.{Command}
use Rattle.xds_script.specs.Commands.{Said, Happens, said_of}
use Rattle.xds_script.specs.Scripts.{line_says}
use Rattle.xds_changes.specs.declared.change.Change.{Change}

-- a replica's number, and what happens there
abbrev pub Written : Type 0
Written = ℕ × Event

abbrev pub change_of : Change → Written
change_of c = (c.replica, event_of c.event)

-- the write that may happen so, if it is one
abbrev pub write_of : Happening → Option Written
write_of (happenings.Put replica kind named groups) = Some (replica, events.Put kind named groups)
write_of (happenings.Delete replica kind name) = Some (replica, events.Delete kind name)
write_of h = None

abbrev pub written_by : Said → Option Written
written_by (Happens h) = write_of h
written_by said = None

abbrev pub change_said : Command → Option Written
change_said command = written_by (said_of command)

-- what a line says has to be a change, if it says anything
abbrev pub only_change : Option (Option Said) → Result (Option Written) Refusal
only_change None = Err BadScript
only_change (Some None) = Ok None
only_change (Some (Some said)) = ok_or (option_map Some (written_by said)) BadScript

-- as many bytes as a line may have
abbrev pub most_line : ℕ
most_line = 8388608

-- what a line changes that isn't longer; none where it is skipped
abbrev pub change_within : List ℕ → Result (Option Written) Refusal
change_within line = only_change (line_says line)

-- what a line changes; none where it is skipped
abbrev pub change_in : List ℕ → Result (Option Written) Refusal
change_in line = if nat_lt most_line (length line) then Err TooLong else change_within line
