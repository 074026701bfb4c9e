-- Whom an event wakes, and what a wait for a stream ends by. This project's own.
--     wakes       a request or the end of a stream wakes that stream's writer alone, and a write all that may be owed something
--     changes_nothing  a reply that tells that nothing changed
--     wakes_by    the same by what the event was answered: where nothing changed it wakes nobody
--     due_at      whether a poll of a stream would give a response, or be refused for want of a number
--     wait_ends   what a wait ends by: it ends once something is due, or the stream isn't open
--     if_due      a wake-up, but nobody's where nothing is due
--     narrowed    whom an event wakes, but for a writer whose stream is owed nothing
use Rattle.std.specs.Prelude.{ℕ, ◌==◌, Bool, true, false, if◌then◌else◌, Option, Some, None, is_some}
use Rattle.std.specs.Option.{option_map}
use Rattle.std.specs.FinMap as finmap
use Rattle.xds_resource.specs.Types.{types}
use Rattle.xds_core.specs.Streams.{first_due}
use Rattle.xds_core.specs.Events as events
use Rattle.xds_core.specs.Events.{Event}
use Rattle.xds_core.specs.Steps.{Core}
use Rattle.xds_node.specs.declared.node.wakes.Wake.{Wake}
use Rattle.xds_node.specs.declared.node.wakes.Wake.TheVariants.{Nobody, Writer, All}
use Rattle.xds_node.specs.declared.node.desk.WaitEnd.{WaitEnd}
use Rattle.xds_node.specs.declared.node.desk.WaitEnd.TheVariants.{Ready, Closed}

-- rule: wake-ups
-- A request or the end of a stream wakes that stream's writer alone, and a write all that may be owed something. A poll wakes nobody:
-- it is the writer that polls.
abbrev pub wakes : Event → Wake
wakes events.Open = Nobody
wakes (events.Request n m) = Writer n
wakes (events.Poll n which) = Nobody
wakes (events.Owes n which) = Nobody
wakes (events.Close n) = Writer n
wakes (events.Put t r groups) = All
wakes (events.Delete t name) = All
wakes (events.Merge b) = All
wakes events.Snapshot = Nobody
wakes (events.Rest t names version cluster) = Nobody
wakes (events.Since marks) = Nobody

-- rule: wake-ups
-- a reply that tells that nothing changed
abbrev pub changes_nothing : events.Reply → Bool
changes_nothing (events.Merged grown) = grown == 0
changes_nothing (events.Opened n) = false
changes_nothing (events.Answered o) = false
changes_nothing (events.Polled d) = false
changes_nothing (events.Owed owed) = false
changes_nothing events.Closed = false
changes_nothing (events.Written counter writer) = false
changes_nothing (events.Entries b) = false
changes_nothing (events.Rested d) = false
changes_nothing (events.Changed b marks) = false

-- rule: wake-ups
-- the same by what the event was answered: where nothing changed it wakes nobody
abbrev pub wakes_by : Wake → events.Reply → Wake
wakes_by w r = if changes_nothing r then Nobody else w

-- rule: wake-ups
-- whether a poll of a stream would give a response, or be refused for want of a number; none where the stream isn't open
abbrev pub due_at : Core → ℕ → Option Bool
due_at c n = option_map (λ s. is_some (first_due c.store s types)) (finmap.get c.streams n)

-- rule: wake-ups
-- what a wait ends by: it ends once something is due, or the stream isn't open
abbrev pub wait_ends : Option Bool → Option WaitEnd
wait_ends None = Some Closed
wait_ends (Some true) = Some Ready
wait_ends (Some false) = None

-- rule: wake-ups
-- a writer whose stream is owed nothing isn't woken
abbrev pub if_due : Option Bool → Wake → Wake
if_due None w = w
if_due (Some true) w = w
if_due (Some false) w = Nobody

-- rule: wake-ups
abbrev pub narrowed : Core → Wake → Wake
narrowed c Nobody = Nobody
narrowed c (Writer n) = if_due (due_at c n) (Writer n)
narrowed c All = All
