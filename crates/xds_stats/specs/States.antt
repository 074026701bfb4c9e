-- How a stream stands of a type, in a word. This project's own.
--     state_word      the word of a state
--     state_by        how a stream stands that asked for a type, whose last answer is a rejection, and which has a response to answer
--     state_of        how a stream stands of a type, by what is known of it
--     since_after     since when something is in a state, where it was in another since then, and is noted now
use Rattle.std.specs.Prelude.{ℕ, List, ◌==◌, ◌&&◌, not, length, Bool, true, false, if◌then◌else◌, codes, string_bytes}
use Rattle.xds_stats.specs.declared.state.TypeState.{TypeState}
use Rattle.xds_stats.specs.declared.state.TypeState.TheVariants.{NeverAsked, Pending, Rejected, Synced}
use Rattle.xds_stats.specs.declared.stream_status.TypeStatus.{TypeStatus}

-- the word
abbrev pub state_word : TypeState → List ℕ
state_word NeverAsked = codes "NEVER ASKED"
state_word Pending = codes "PENDING"
state_word Rejected = codes "REJECTED"
state_word Synced = codes "SYNCED"

-- how a stream stands that asked for a type or didn't, whose last answer is a rejection or isn't, and which has a response to answer or hasn't
abbrev pub state_by : Bool → Bool → Bool → TypeState
state_by is_asked is_rejected is_pending =
    if not is_asked then NeverAsked else if is_rejected then Rejected else if is_pending then Pending else Synced

-- the same by what is known of it
abbrev pub state_of : TypeStatus → TypeState
state_of status = state_by status.is_asked status.is_rejected (not status.is_answered && not (length (string_bytes status.nonce) == 0))

abbrev is_same : TypeState → TypeState → Bool
is_same NeverAsked NeverAsked = true
is_same NeverAsked Pending = false
is_same NeverAsked Rejected = false
is_same NeverAsked Synced = false
is_same Pending NeverAsked = false
is_same Pending Pending = true
is_same Pending Rejected = false
is_same Pending Synced = false
is_same Rejected NeverAsked = false
is_same Rejected Pending = false
is_same Rejected Rejected = true
is_same Rejected Synced = false
is_same Synced NeverAsked = false
is_same Synced Pending = false
is_same Synced Rejected = false
is_same Synced Synced = true

-- since when something is in a state, where it was in another since then, and is noted now
abbrev pub since_after : TypeState → TypeState → ℕ → ℕ → ℕ
since_after before after since now = if is_same before after then since else now
