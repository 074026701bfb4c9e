-- What a post to a running node leaves of its seat's calls, and the reply to it. This project's own.
--     IsRest                   an event that polls without a stream
--     Rests                    what a poll without a stream is answered: never a refusal
--     IsToldReply              the seat is told one step of the replica of this number, of this event
--     IsToldNoReply            it is told nothing, since the call left no record
--     IsReplyAt                the reply to a request of this method, path and body at the node of this replica
--     LeavesNoReply            why there is no reply
--     once_full                the seat after a call that found the journal full
--     IsTriedReply             the reply is by the first call, or by the second
--     IsTriedNoReply           at the first call there was no memory
--     IsReplyByCutting         the reply to a request, as `IsReplyAt` has it
--     LeavesNoReplyByCutting   why there is none, as `LeavesNoReply` has it
--     IsReplyOrUnavailable     the reply to a request of this method
use Rattle.std.specs.Prelude.{◌≡◌, ◌⊎◌, ⊤, ℕ, List, Option, Some, Ok}
use Rattle.xds_resource.specs.declared.types.TypeName.{TypeName}
use Rattle.xds_resource.specs.declared.refusal.Refusal.{Refusal}
use Rattle.xds_resource.specs.declared.refusal.Refusal.TheVariants.{OutOfMemory, JournalFull}
use Rattle.xds_message.specs.Drafts.{Drafted}
use Rattle.xds_core.specs.Events as events
use Rattle.xds_core.specs.Events.{Event}
use Rattle.xds_node.specs.Told.{Calls, also_refused, IsStepAt, LeavesNoRecord}
use Rattle.xds_polls.specs.Polls.{HttpReply, unavailable, addressed}
use Rattle.xds_rest.specs.Posts.{Finished, Asks, IsAsked}
use Rattle.xds_rest.specs.Replies.{http_of}

-- an event that polls without a stream
abbrev pub IsRest : Event → Type 0
IsRest (events.Rest t names version cluster) = ⊤
IsRest e = ⊥

-- what a poll without a stream is answered: never a refusal
abbrev pub Rests : ℕ → Calls → Calls → Event → Option Drafted → Type 0
Rests replica old new e o =
    IsStepAt replica old.told new.told e (Ok (events.Rested o)) × (new.refused ≡ old.refused)

-- ---- one call

-- The seat is told one step of the replica of this number, of this event, and the reply is by its answer.
abbrev pub IsToldReply : ℕ → Calls → Calls → Event → HttpReply → Type 0
IsToldReply replica old new e r = (o : Option Drafted) × Rests replica old new e o × (r ≡ http_of o)

-- It is told nothing, since the call left no record; or it is told the whole, and there was no memory for the text of it.
abbrev pub IsToldNoReply : ℕ → Calls → Calls → Event → Refusal → Type 0
IsToldNoReply replica old new e refusal =
    (LeavesNoRecord refusal × (new ≡ also_refused e refusal old))
    ⊎ ((refusal ≡ OutOfMemory) × (d : Drafted) × Rests replica old new e (Some d))

-- The reply to a request of this method, path and body at the node of this replica: it is finished before the node is asked, and the
-- seat makes no call; or it is by the answer to the poll that the request asks, which is the one entry that the seat is told.
abbrev pub IsReplyAt : ℕ → List ℕ → List ℕ → List ℕ → Calls → Calls → HttpReply → Type 0
IsReplyAt replica method path body old new r =
    (IsAsked method path body (Finished r) × (new ≡ old))
    ⊎ ((e : Event) × IsAsked method path body (Asks e) × IsToldReply replica old new e r)

-- Why there is no reply: there was no memory for a body that is read, and the seat makes no call; or the poll that it asks left no
-- record, or has no text.
abbrev pub LeavesNoReply : ℕ → List ℕ → List ℕ → List ℕ → Calls → Calls → Refusal → Type 0
LeavesNoReply replica method path body old new refusal =
    ((refusal ≡ OutOfMemory) × (t : TypeName) × (addressed method path body ≡ Ok t) × (new ≡ old))
    ⊎ ((e : Event) × IsAsked method path body (Asks e) × IsToldNoReply replica old new e refusal)

-- ---- where a full journal is cut, and the poll asked once more by the same seat

-- the seat after a call that found the journal full
abbrev pub once_full : Event → Calls → Calls
once_full e old = also_refused e JournalFull old

-- the reply is by the first call, or by the second
abbrev pub IsTriedReply : ℕ → Calls → Calls → Event → HttpReply → Type 0
IsTriedReply replica old new e r = IsToldReply replica old new e r ⊎ IsToldReply replica (once_full e old) new e r

-- At the first call there was no memory; or the second call gave no reply, for whichever reason.
abbrev pub IsTriedNoReply : ℕ → Calls → Calls → Event → Type 0
IsTriedNoReply replica old new e =
    IsToldNoReply replica old new e OutOfMemory
    ⊎ ((refusal : Refusal) × IsToldNoReply replica (once_full e old) new e refusal)

-- the reply to a request, as `IsReplyAt` has it
abbrev pub IsReplyByCutting : ℕ → List ℕ → List ℕ → List ℕ → Calls → Calls → HttpReply → Type 0
IsReplyByCutting replica method path body old new r =
    (IsAsked method path body (Finished r) × (new ≡ old))
    ⊎ ((e : Event) × IsAsked method path body (Asks e) × IsTriedReply replica old new e r)

-- why there is none, as `LeavesNoReply` has it
abbrev pub LeavesNoReplyByCutting : ℕ → List ℕ → List ℕ → List ℕ → Calls → Calls → Type 0
LeavesNoReplyByCutting replica method path body old new =
    ((t : TypeName) × (addressed method path body ≡ Ok t) × (new ≡ old))
    ⊎ ((e : Event) × IsAsked method path body (Asks e) × IsTriedNoReply replica old new e)

-- The reply to a request of this method, path and body by a seat of the node of this replica, between the seat's calls before and
-- after; or 503 without a body, where there is none, and the seat's calls say why.
abbrev pub IsReplyOrUnavailable : ℕ → List ℕ → List ℕ → List ℕ → Calls → Calls → HttpReply → Type 0
IsReplyOrUnavailable replica method path body old new r =
    IsReplyByCutting replica method path body old new r
    ⊎ ((r ≡ unavailable) × LeavesNoReplyByCutting replica method path body old new)
