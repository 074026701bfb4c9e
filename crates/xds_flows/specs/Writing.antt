-- What the writing thread of a stream does: it polls, and writes each response that it is told as a frame. This project's own; the
-- responses are those of Envoy's "xDS REST and gRPC protocol".
--     listed            a response, if there is one
--     response_in       the response in an answer
--     responses_of      the responses that were told, in order
--     poll_of           a poll of a stream, for all types
--     IsPoll            an entry that records such a poll
--     AreTries          of so many polls each was tried at most once before it was recorded, where the journal was full
--     IsWritten         responses were told, and each was written as a frame
--     IsLastPoll        the last poll: the stream isn't open
--     IsStop            why the writing stops before that
--     TurnWrites        one turn: a poll, whose response is written; or the last one; or why it stops
--     HasWritten        all polls and what was written of them: every response whole, until the last poll
--     WritesAll         the same of the whole thread
--     IsSilent          nothing is written, and nothing fails
--     Responds          a response is sent, or there is none
use Rattle.std.specs.Prelude.{◌≡◌, ◌≢◌, ◌≤◌, ◌⊎◌, ℕ, List, [], ◌∷◌, ◌++◌, length, All, Bool, true, false, Option, Some, None, Result, Ok, Err}
use Rattle.std.specs.List.{flat_map}
use Rattle.xds_resource.specs.declared.refusal.Refusal.{Refusal}
use Rattle.xds_resource.specs.declared.refusal.Refusal.TheVariants.{NoStream, JournalFull}
use Rattle.xds_message.specs.declared.draft.Draft.{Draft}
use Rattle.xds_frames.specs.Devices.{Device, Stays, Wrote}
use Rattle.xds_core.specs.Events.{Event, Reply, Poll, Polled}
use Rattle.xds_core.specs.Legal.{Record}
use Rattle.xds_node.specs.Told.{LeavesNoRecord}
use Rattle.xds_node.specs.Sending.{Fits, IsUnsent, NoneFailed, Sends, sent}
use Rattle.xds_node.specs.Turning.{draft_in}
use Rattle.xds_node.specs.WorkersTold.{IsGranted, IsClosing, IsTriedBefore, IsTriedInVain, in_vain}

-- a response, if there is one
abbrev pub listed : Option Draft → List Draft
listed None = []
listed (Some d) = d ∷ []

-- the response in an answer
abbrev pub response_in : Result Reply Refusal → List Draft
response_in (Ok reply) = listed (draft_in reply)
response_in (Err e) = []

-- the responses that were told, in order
abbrev pub responses_of : List (ℕ × Record) → List Draft
responses_of told = flat_map (λ entry. response_in entry.1.answer) told

-- a poll of a stream, for all types
abbrev pub poll_of : ℕ → Event
poll_of stream = Poll stream None

abbrev pub IsPoll : ℕ → ℕ × Record → Type 0
IsPoll stream entry = entry.1.event ≡ poll_of stream

-- Of so many polls each was tried at most once before it was recorded, where the journal was full.
abbrev pub AreTries : ℕ → List (ℕ × Record) → List Record → Type 0
AreTries stream polls tried = All (λ t. t ≡ in_vain (poll_of stream) JournalFull) tried × (length tried ≤ length polls)

-- Responses were told, and each was written as a frame.
pub record IsWritten (stream : ℕ) (told : List (ℕ × Record)) (tried : List Record) (d : Device) : Type 0 where
  pub are_polls : All (IsPoll stream) told
  pub are_tries : AreTries stream told tried
  pub granted : All IsGranted told
  pub fit : All Fits (responses_of told)
  pub wrote : Wrote d (sent (responses_of told))
  pub none_failed : NoneFailed d

-- The last poll: the stream isn't open.
abbrev pub IsLastPoll : ℕ → List (ℕ × Record) → List Record → Type 0
IsLastPoll stream last tries =
    (entry : ℕ × Record) × (last ≡ entry ∷ []) × IsPoll stream entry × (entry.1.answer ≡ Err NoStream) × IsTriedBefore (poll_of stream) tries

-- Why the writing stops before that: a poll is refused, or leaves no record, or its response isn't sent, of which this part was written.
abbrev pub IsStop : ℕ → List (ℕ × Record) → List Record → List ℕ → Refusal → Device → Type 0
IsStop stream last tries part e d =
    ((entry : ℕ × Record) × (last ≡ entry ∷ []) × IsPoll stream entry × (entry.1.answer ≡ Err e) × (e ≢ NoStream)
    × IsTriedBefore (poll_of stream) tries × (part ≡ []) × NoneFailed d)
    ⊎ ((LeavesNoRecord e × (last ≡ []) × IsTriedInVain (poll_of stream) e tries × (part ≡ []) × NoneFailed d)
    ⊎ ((entry : ℕ × Record) × (response : Draft) × (last ≡ entry ∷ []) × IsPoll stream entry × (entry.1.answer ≡ Ok (Polled (Some response)))
    × IsTriedBefore (poll_of stream) tries × IsUnsent response part e d))

-- one turn: a poll, whose response is written; or the last one; or why it stops
abbrev pub TurnWrites : ℕ → List (ℕ × Record) → List Record → Device → Result Bool Refusal → Type 0
TurnWrites stream told tried d (Ok true) = (entry : ℕ × Record) × (told ≡ entry ∷ []) × IsWritten stream told tried d
TurnWrites stream told tried d (Ok false) = IsLastPoll stream told tried × Stays d × NoneFailed d
TurnWrites stream told tried d (Err e) = (part : List ℕ) × Wrote d part × IsStop stream told tried part e d

-- All polls and what was written of them: every response whole, until the last poll; or all but the last, of which this part was.
abbrev pub HasWritten : {T : Type 0} → ℕ → List (ℕ × Record) → List Record → Device → Result T Refusal → Type 0
HasWritten stream told tried d (Ok x) =
    (polls last : List (ℕ × Record)) × (before tries : List Record) × (told ≡ polls ++ last) × (tried ≡ before ++ tries)
    × IsWritten stream polls before d × IsLastPoll stream last tries
HasWritten stream told tried d (Err e) =
    (polls last : List (ℕ × Record)) × (before tries : List Record) × (part : List ℕ) × (told ≡ polls ++ last) × (tried ≡ before ++ tries)
    × All (IsPoll stream) polls × AreTries stream polls before × All IsGranted polls
    × All Fits (responses_of polls) × Wrote d (sent (responses_of polls) ++ part) × IsStop stream last tries part e d

-- The same of the whole thread, which asks for the close of the stream where it stops before the last poll, and for nothing behind that.
abbrev pub WritesAll : {T : Type 0} → ℕ → List (ℕ × Record) → List Record → Device → Result T Refusal → Type 0
WritesAll {T} stream told tried d (Ok x) = HasWritten {T = T} stream told tried d (Ok x)
WritesAll {T} stream told tried d (Err e) =
    (polls closing : List (ℕ × Record)) × (before tries : List Record) × (told ≡ polls ++ closing) × (tried ≡ before ++ tries)
    × HasWritten {T = T} stream polls before d (Err e) × IsClosing stream closing tries

-- nothing is written, and nothing fails
abbrev pub IsSilent : {T : Type 0} → Result T Refusal → Device → Type 0
IsSilent (Ok x) d = Stays d × NoneFailed d
IsSilent (Err e) d = ⊥

-- a response is sent, or there is none
abbrev pub Responds : {T : Type 0} → Option Draft → Result T Refusal → Device → Type 0
Responds None r d = IsSilent r d
Responds (Some response) r d = Sends response r d
