-- The parts from which what is believed is made, entry by entry: the answers of the functions that make it. This project's own.
--     told_unless_touched   of a name that an accepted response speaks of
--     kept_beside           of a name that was believed held, beside an accepted response
--     left_by               of a name that was believed held, after a request that doesn't mention it
--     made_unsure           of a name that a request mentions
--     told_as               of a name that a client says it holds at a version
use Rattle.std.specs.Prelude.{ℕ, List, Bool, ◌&&◌, ◌||◌, not, if◌then◌else◌, Option, Some, None, is_some}
use Rattle.std.specs.FinMap as finmap
use Rattle.xds_interest.specs.Interests.{Selection, reaches}
use Rattle.xds_interest.specs.Touches.{Touch, touches}
use Rattle.xds_ledger.specs.declared.entry.Entry.{Entry}
use Rattle.xds_ledger.specs.declared.entry.Entry.TheVariants.{Told, Unsure}
use Rattle.xds_ledger.specs.declared.entry.Due.{Due}
use Rattle.xds_ledger.specs.Believing.{Sent, was_touched, once_told}

-- of a name that an accepted response speaks of
abbrev pub told_unless_touched : Bool → Due → Option Entry
told_unless_touched touched due = if touched then Some Unsure else once_told due

-- of a name that was believed held, beside an accepted response: nothing if the response speaks of it, or should have
abbrev pub kept_beside : Bool → Sent → List ℕ → Entry → Option Entry
kept_beside whole sent name entry = if is_some (finmap.get sent.offer name) || (whole && not (was_touched sent name)) then None else Some entry

-- of a name that was believed held, after a request that doesn't mention it
abbrev pub left_by : Selection → Touch → List ℕ → Entry → Option Entry
left_by s touched name entry = if touches touched name then (if reaches s name then Some Unsure else None) else Some entry

-- of a name that a request mentions
abbrev pub made_unsure : Selection → Touch → List ℕ → Option Entry
made_unsure s touched name = if touches touched name && reaches s name then Some Unsure else None

-- of a name that a client says it holds at a version
abbrev pub told_as : List ℕ → List ℕ → Option Entry
told_as name version = Some (Told version)
