-- What is counted of a replica for those who look, and what is shown of a stream. This project's own.
--     names_after       how many names a stream asks for after a request, where it asked for so many before
--     more              the count once one more has come
--     rest_after        the replies to polls over HTTP once one of this status was given
--     streams_after     the open streams once one more of this variant is counted, or on which no request has come
--     recorded_after    what is counted of a journal once an event left a record, or none; a part of another replica or not
--     cut_after         the same once the journal was cut, or couldn't be
--     taken_kind        the type of a request that was taken
--     stream_of         the stream whose request or poll an event is, if it is one
--     verdict           whether a request accepts the last response of its type (true) or rejects it (false), if it does either
--     answered_after    whether the last response was answered, once a request said that of it
--     rejection_text    what a request says of the response that it rejects; nothing, if it rejects none
--     accepted_after    the version that a stream accepted last, once a request was taken
--     rejection_after   what it said of the response that it rejected last; nothing, once it accepted one
--     rejected_after    whether what it answered last is a rejection
--     nonce_after       the nonce of the response that it rejected last; nothing, once it accepted one
--     known_after       of how many puts of a type it knows, or needn't wait for, once a request was taken
--     AreOthersSame     what doesn't change where only texts of an answer are noted
--     accepted_by       the version that it accepted last, by what a request says of the last response
--     rejection_by      what it said of a rejection, by what a request says of the last response
--     nonce_by          the nonce that it rejected last, by what a request says of the last response
--     put_after         when the put was made that it is to accept, if there is one
--     counts_at         what was counted of a type
--     with_counts       the same with other counts of a type
--     no_answers        nothing was counted
--     judged            the counts of a type once a response was accepted or rejected, if one was
--     judged_at         the counts of all types then
--     responded_at      once a stream was told a response of a type
--     status_of         what is shown of a type on a stream
--     verdict_on        what a request says on a stream, if it is open: nothing, where it is out of date
--     is_nack           whether that is a rejection
--     heard_at          what was counted once a request came on a stream
use Rattle.std.specs.Prelude.{◌≡◌, ℕ, List, [], ◌+◌, ◌-◌, ◌^◌, ◌==◌, ◌||◌, not, Bool, true, false, if◌then◌else◌, bytes_eq, is_none, length, min, Option, Some, None, String, string_bytes}
use Rattle.std.specs.declared.alloc.Global.{Global}
use Rattle.xds_resource.specs.declared.types.TypeName.{TypeName}
use Rattle.xds_resource.specs.declared.types.TypeName.TheVariants.{Cluster, Endpoint, Listener, Route, Secret}
use Rattle.xds_ledger.specs.declared.outcome.Outcome.{Outcome}
use Rattle.xds_ledger.specs.declared.outcome.Outcome.TheVariants.{Taken, Ignored}
use Rattle.xds_ledger.specs.declared.variant.VariantName.{VariantName}
use Rattle.xds_ledger.specs.declared.variant.VariantName.TheVariants.{StateOfTheWorld, Delta}
use Rattle.xds_stats.specs.declared.counts.Counts.{Counts}
use Rattle.xds_stats.specs.declared.counts.TypeCounts.{TypeCounts}
use Rattle.xds_stats.specs.declared.numbers.JournalCounts.{JournalCounts}
use Rattle.xds_stats.specs.declared.numbers.RestCounts.{RestCounts}
use Rattle.xds_stats.specs.declared.numbers.StreamCounts.{StreamCounts}
use Rattle.xds_stats.specs.declared.sight.Heard.{Heard}
use Rattle.xds_stats.specs.declared.sight.Sight.{Sight}
use Rattle.xds_stats.specs.declared.sight.Sight.TheVariants.{Request, Poll, Change, Part, Other}
use Rattle.xds_stats.specs.declared.sight.NamesChange.{NamesChange}
use Rattle.xds_stats.specs.declared.sight.NamesChange.TheVariants.{Listed, Edited}
use Rattle.xds_stats.specs.declared.stream_status.StreamStatus.{StreamStatus}
use Rattle.xds_stats.specs.declared.stream_status.TypeStatus.{TypeStatus}
use Rattle.xds_stats.specs.declared.stream_status.TypeStatuses.{TypeStatuses}

-- how many names a stream asks for after a request, where it asked for so many before
abbrev pub names_after : NamesChange → ℕ → ℕ
names_after (Listed count) before = count
names_after (Edited more fewer) before = min (before + more) (2 ^ 64 - 1) - fewer

-- the count once one more has come
abbrev pub more : ℕ → ℕ
more count = min (count + 1) (2 ^ 64 - 1)

-- the replies to polls over HTTP once one of this status was given
abbrev pub rest_after : RestCounts → ℕ → RestCounts
rest_after c status =
    if status == 200 then record c { ok = more c.ok }
    else if status == 304 then record c { unchanged = more c.unchanged }
    else if status == 400 then record c { bad = more c.bad }
    else if status == 503 then record c { unavailable = more c.unavailable }
    else record c { other = more c.other }

-- the open streams once one more of this variant is counted, or on which no request has come
abbrev pub streams_after : StreamCounts → Option VariantName → StreamCounts
streams_after c None = record c { silent = more c.silent }
streams_after c (Some StateOfTheWorld) = record c { sotw = more c.sotw }
streams_after c (Some Delta) = record c { delta = more c.delta }

-- What is counted of a journal once an event left a record, or none. Where the event is a part that another replica told, it is
-- counted as such, or as lost.
abbrev pub recorded_after : JournalCounts → Bool → Bool → JournalCounts
recorded_after c is_part left_record =
    if left_record then (if is_part then record c { records = more c.records; parts = more c.parts } else record c { records = more c.records })
    else (if is_part then record c { lost_parts = more c.lost_parts } else c)

-- the same once the journal was cut, or couldn't be
abbrev pub cut_after : JournalCounts → Bool → JournalCounts
cut_after c went_well = if went_well then record c { cuts = more c.cuts } else record c { failed_cuts = more c.failed_cuts }

-- ---- what a request says of responses

-- the stream whose request or poll an event is, if it is one
abbrev pub stream_of : Sight → Option ℕ
stream_of (Request stream heard) = Some stream
stream_of (Poll stream) = Some stream
stream_of (Change kind) = None
stream_of Part = None
stream_of Other = None

-- rule: stale-nonce
-- the type of a request that was taken
abbrev pub taken_kind : Heard → Outcome → Option TypeName
taken_kind heard Taken = heard.kind
taken_kind heard Ignored = None

-- rule: accept-reject
-- Whether a request accepts the last response of its type (true) or rejects it (false), if it does either: it names the nonce of that
-- response, to which no request answered before.
abbrev pub verdict : TypeStatus → Heard → Option Bool
verdict status heard =
    if status.is_answered || length (string_bytes status.nonce) == 0 || not (bytes_eq (string_bytes heard.nonce) (string_bytes status.nonce)) then None
    else Some (is_none heard.rejection)

-- rule: accept-reject
-- whether the last response was answered, once a request said that of it
abbrev pub answered_after : Bool → Option Bool → Bool
answered_after before None = before
answered_after before (Some accepts) = true

-- what a request says of the response that it rejects; nothing, if it rejects none
abbrev rejection_in : Option (String Global) → List ℕ
rejection_in None = []
rejection_in (Some message) = string_bytes message

abbrev pub rejection_text : Heard → List ℕ
rejection_text heard = rejection_in heard.rejection

abbrev pub accepted_by : TypeStatus → Option Bool → List ℕ
accepted_by status (Some true) = string_bytes status.sent
accepted_by status (Some false) = string_bytes status.accepted
accepted_by status None = string_bytes status.accepted

-- the version that a stream accepted last, once a request was taken
abbrev pub accepted_after : TypeStatus → Heard → List ℕ
accepted_after status heard = accepted_by status (verdict status heard)

abbrev pub rejection_by : TypeStatus → Heard → Option Bool → List ℕ
rejection_by status heard (Some true) = []
rejection_by status heard (Some false) = rejection_text heard
rejection_by status heard None = string_bytes status.rejection

-- what it said of the response that it rejected last; nothing, once it accepted one
abbrev pub rejection_after : TypeStatus → Heard → List ℕ
rejection_after status heard = rejection_by status heard (verdict status heard)

-- whether what it answered last is a rejection
abbrev pub rejected_after : Bool → Option Bool → Bool
rejected_after before None = before
rejected_after before (Some accepts) = not accepts

abbrev pub nonce_by : TypeStatus → Option Bool → List ℕ
nonce_by status (Some true) = []
nonce_by status (Some false) = string_bytes status.nonce
nonce_by status None = string_bytes status.rejected

-- the nonce of the response that it rejected last; nothing, once it accepted one
abbrev pub nonce_after : TypeStatus → Heard → List ℕ
nonce_after status heard = nonce_by status (verdict status heard)

-- Of how many puts of a type it knows, or needn't wait for: of all that were made, once it asked for something.
abbrev pub known_after : ℕ → Option Bool → ℕ → ℕ
known_after known None made = made
known_after known (Some accepts) made = known

-- what doesn't change where only texts of an answer are noted
abbrev pub AreOthersSame : TypeStatus → TypeStatus → Type 0
AreOthersSame before after =
    (after.is_asked ≡ before.is_asked) × (after.names ≡ before.names) × (after.sent ≡ before.sent) × (after.nonce ≡ before.nonce)
    × (after.is_answered ≡ before.is_answered) × (after.is_rejected ≡ before.is_rejected) × (after.since ≡ before.since)
    × (after.known ≡ before.known) × (after.put ≡ before.put)

-- when the put was made that it is to accept, if there is one
abbrev pub put_after : {X : Type 0} → Option X → Option Bool → Option X
put_after put None = put
put_after put (Some accepts) = None

-- ---- what is counted of responses

-- what was counted of a type
abbrev pub counts_at : Counts → TypeName → TypeCounts
counts_at c Cluster = c.cluster
counts_at c Endpoint = c.endpoint
counts_at c Listener = c.listener
counts_at c Route = c.route
counts_at c Secret = c.secret

-- the same with other counts of a type
abbrev pub with_counts : Counts → TypeName → TypeCounts → Counts
with_counts c Cluster counts = record c { cluster = counts }
with_counts c Endpoint counts = record c { endpoint = counts }
with_counts c Listener counts = record c { listener = counts }
with_counts c Route counts = record c { route = counts }
with_counts c Secret counts = record c { secret = counts }

abbrev pub no_answers : TypeCounts
no_answers = record { responses = 0; acks = 0; nacks = 0 }

-- once a response was accepted or rejected, if one was
abbrev pub judged : TypeCounts → Option Bool → TypeCounts
judged c (Some true) = record c { acks = more c.acks }
judged c (Some false) = record c { nacks = more c.nacks }
judged c None = c

abbrev pub judged_at : Counts → TypeName → Option Bool → Counts
judged_at c kind verdict = with_counts c kind (judged (counts_at c kind) verdict)

abbrev responded : TypeCounts → TypeCounts
responded c = record c { responses = more c.responses }

-- once a stream was told a response of a type
abbrev pub responded_at : Counts → TypeName → Counts
responded_at c kind = with_counts c kind (responded (counts_at c kind))

-- what is shown of a type on a stream
abbrev pub status_of : TypeStatuses → TypeName → TypeStatus
status_of s Cluster = s.cluster
status_of s Endpoint = s.endpoint
status_of s Listener = s.listener
status_of s Route = s.route
status_of s Secret = s.secret

abbrev verdict_of : Option StreamStatus → Heard → Option TypeName → Option Bool
verdict_of (Some status) heard (Some kind) = verdict (status_of status.types kind) heard
verdict_of (Some status) heard None = None
verdict_of None heard (Some kind) = None
verdict_of None heard None = None

-- what a request says on a stream, if it is open: nothing, where it is out of date
abbrev pub verdict_on : Option StreamStatus → Heard → Outcome → Option Bool
verdict_on status heard outcome = verdict_of status heard (taken_kind heard outcome)

-- whether that is a rejection
abbrev pub is_nack : Option Bool → Bool
is_nack (Some accepts) = not accepts
is_nack None = false

abbrev judged_in : Counts → Option TypeName → Option Bool → Counts
judged_in c None verdict = c
judged_in c (Some kind) verdict = judged_at c kind verdict

-- what was counted once a request came on a stream
abbrev pub heard_at : Counts → Option StreamStatus → Heard → Outcome → Counts
heard_at c status heard outcome = judged_in c heard.kind (verdict_on status heard outcome)
