-- What the writing half of a stream does from any state on, a response under way among them. This project's own.
--     WriteAt        what the seat was told and refused, a response that isn't begun, the bytes still to be written of one that is, what the
--                    writer holds, its failures
--     GoesGiven      the response that isn't begun is sent, and then all is as `HasWritten` says; or it isn't sent
--     Goes           what is under way is written whole, and then what is given; or the writer fails in it
--     WritesFrom     the same up to the end at another state
--     WritesOn       and then the close of the stream is asked for, unless a poll found that it isn't open: `WritesAll` where nothing is under way
--     WriteLeads     whatever comes from the second state on, comes from the first on
--     write_at       the state of a seat, of what is given and owed, and of a writer
--     device         what a writer holds and how many of its calls failed, before and after
--     Frames         a response as a frame, or why it has none
--     PutsSome       the front of what is owed was written
--     taken_by       how many bytes a write took
--     PutsOnce       some of what is owed was put, or the writer failed
--     Begins         a response is begun: this is left to be written of its frame; or why it isn't sent
--     BeginsGiven    the same of one that was given
--     Polls          one event of a seat, with the tries that left no record
--     Asked          a poll gave this response, or none; or it ends there
--     GivesUp        a poll whose response can't be written
--     AsGiven        the sources that are waited for where nothing is under way
--     Waits          the sources that are waited for
--     EndOf          a poll that was refused ends the writing well where the stream isn't open
--     OnGoing        of a turn that the writing doesn't end with
--     IfEnded        of how a turn ended it
--     Closes         the close of the stream is asked for, where the writing stopped before a poll found that it isn't open
use Rattle.std.specs.Prelude.{◌≡◌, ◌≢◌, ◌⊎◌, ◌<◌, ℕ, List, [], ◌∷◌, ◌++◌, take, length, Option, Some, None, Result, Ok, Err, ⊤}
use Rattle.std.specs.Io.KnownBytes.{Appends}
use Rattle.futures.specs.declared.task.Poll.{Poll}
use Rattle.futures.specs.declared.task.Poll.TheVariants.{Ready, Pending}
use Rattle.xds_resource.specs.declared.refusal.Refusal.{Refusal}
use Rattle.xds_resource.specs.declared.refusal.Refusal.TheVariants.{NoStream, OutOfMemory, Device as DeviceRefusal}
use Rattle.xds_message.specs.declared.draft.Draft.{Draft}
use Rattle.xds_frames.specs.Frames.{frame_bytes}
use Rattle.xds_frames.specs.Devices.{Device, MoreFailed}
use Rattle.xds_frames.specs.declared.counted.Counted.{Counted}
use Rattle.xds_core.specs.Events.{Reply, Poll as PollEvent}
use Rattle.xds_core.specs.Legal.{Record}
use Rattle.xds_node.specs.Sending.{Fits, IsUnframed, NoneFailed, Sends, frame_of}
use Rattle.xds_node.specs.Turning.{draft_in}
use Rattle.xds_node.specs.WorkersTold.{IsAnswered, IsClosing}
use Rattle.xds_flows.specs.Writing.{HasWritten}

pub record WriteAt : Type 0 where
  pub told : List (ℕ × Record)
  pub refused : List Record
  pub given : Option Draft
  pub owed : List ℕ
  pub holds : Option (List ℕ)
  pub failed : ℕ

abbrev pub write_at : {S W : Type 0} → (S → List (ℕ × Record)) → (S → List Record) → (W → Option (List ℕ)) → S → Option Draft → List ℕ → Counted W
    → WriteAt
write_at told refused contents seat given owed writer =
    record { told = told seat; refused = refused seat; given = given; owed = owed; holds = contents writer.inner; failed = writer.failed }

abbrev pub device : Option (List ℕ) → Option (List ℕ) → ℕ → ℕ → Device
device b a f g = record { before = b; after = a; failed_before = f; failed_after = g }

-- The response that isn't begun is sent, and then all is as `HasWritten` says; or it isn't sent, and nothing more is told.
abbrev pub GoesGiven : {T : Type 0} → ℕ → List (ℕ × Record) → List Record → Option Draft → Device → Result T Refusal → Type 0
GoesGiven stream told tried None d r = HasWritten stream told tried d r
GoesGiven {T} stream told tried (Some response) d r =
    ((mid : Option (List ℕ)) × Fits response × Appends d.before mid (frame_bytes (frame_of response))
    × HasWritten stream told tried (device mid d.after d.failed_before d.failed_after) r)
    ⊎ ((e : Refusal) × (r ≡ Err e) × (told ≡ []) × (tried ≡ []) × Sends {T = T} response (Err e) d)

abbrev pub Goes : {T : Type 0} → ℕ → List (ℕ × Record) → List Record → WriteAt → Result T Refusal → WriteAt → Type 0
Goes stream told tried a r b =
    ((mid : Option (List ℕ)) × Appends a.holds mid a.owed × GoesGiven stream told tried a.given (device mid b.holds a.failed b.failed) r)
    ⊎ ((0 < length a.owed) × (r ≡ Err DeviceRefusal) × (told ≡ []) × (tried ≡ []) × MoreFailed a.failed b.failed
    × ((k : ℕ) × Appends a.holds b.holds (take k a.owed)))

abbrev pub WritesFrom : {T : Type 0} → ℕ → WriteAt → Result T Refusal → WriteAt → Type 0
WritesFrom stream a r b =
    (told : List (ℕ × Record)) × (tried : List Record) × (b.told ≡ a.told ++ told) × (b.refused ≡ a.refused ++ tried) × Goes stream told tried a r b

abbrev pub WriteLeads : ℕ → WriteAt → WriteAt → Type 0
WriteLeads stream a b = (r : Result (Unit {0}) Refusal) (z : WriteAt) → WritesFrom stream b r z → WritesFrom stream a r z

-- ---- the steps of a turn

-- a response as a frame, or why it has none
abbrev pub Frames : Draft → Result (List ℕ) Refusal → Type 0
Frames d (Ok bytes) = Fits d × (bytes ≡ frame_bytes (frame_of d))
Frames d (Err e) = IsUnframed (frame_of d) e

abbrev pub PutsSome : Device → List ℕ → List ℕ → Type 0
PutsSome d owed left = (put : List ℕ) × Appends d.before d.after put × (owed ≡ put ++ left)

-- how many bytes a write took: none where it failed
abbrev pub taken_by : {E : Type 0} → Result ℕ E → ℕ
taken_by (Ok n) = n
taken_by (Err e) = 0

-- some of what is owed was put, or the writer failed
abbrev pub PutsOnce : {T : Type 0} → Device → List ℕ → List ℕ → Poll (Result T Refusal) → Type 0
PutsOnce d owed left Pending = PutsSome d owed left × (d.failed_after ≡ d.failed_before)
PutsOnce d owed left (Ready (Ok x)) = PutsSome d owed left × (d.failed_after ≡ d.failed_before)
PutsOnce d owed left (Ready (Err e)) = PutsSome d owed left × (e ≡ DeviceRefusal) × MoreFailed d.failed_before d.failed_after

-- A response is begun: a front of its frame was put, and this is left; or why it isn't sent.
abbrev pub Begins : Draft → Device → Result (List ℕ) Refusal → Type 0
Begins response d (Ok left) = Fits response × PutsSome d (frame_bytes (frame_of response)) left × NoneFailed d
Begins response d (Err e) = Sends {T = Unit {0}} response (Err e) d

-- the same of one that was given, which is then under way
abbrev pub BeginsGiven : {T : Type 0} → Option Draft → Option Draft → Device → List ℕ → Result T Refusal → Type 0
BeginsGiven None after d left r = ⊥
BeginsGiven (Some response) after d left (Ok x) = Begins response d (Ok left) × (after ≡ None)
BeginsGiven (Some response) after d left (Err e) = Begins response d (Err e)

-- one event of a seat, with the tries that left no record
abbrev pub Polls : ℕ → List (ℕ × Record) → List (ℕ × Record) → List Record → List Record → Result Reply Refusal → Type 0
Polls stream old new had has a = (tries : List Record) × (has ≡ had ++ tries) × IsAnswered old new tries (PollEvent stream None) a

-- A poll gave this response, or none; or the writing ends there.
abbrev pub Asked : {T : Type 0} → ℕ → List (ℕ × Record) → List (ℕ × Record) → List Record → List Record → Result (Option Draft) (Result T Refusal) → Type 0
Asked stream old new had has (Ok next) = (reply : Reply) × Polls stream old new had has (Ok reply) × (next ≡ draft_in reply)
Asked stream old new had has (Err (Ok x)) = Polls stream old new had has (Err NoStream)
Asked stream old new had has (Err (Err e)) = Polls stream old new had has (Err e) × (e ≢ NoStream)

-- a poll whose response can't be written for want of memory: it gave none, or the writing ends there
abbrev pub GivesUp : {T : Type 0} → ℕ → List (ℕ × Record) → List (ℕ × Record) → List Record → List Record → Option (Result T Refusal) → Type 0
GivesUp {T} stream old new had has None = Asked {T = T} stream old new had has (Ok None)
GivesUp {T} stream old new had has (Some end) =
    Asked {T = T} stream old new had has (Err end) ⊎ ((response : Draft) × (end ≡ Err OutOfMemory) × Asked {T = T} stream old new had has (Ok (Some response)))

-- the sources that are waited for where nothing is under way: the gate's where a response was given, and else the replica's
abbrev pub AsGiven : (ℕ → Type 0) → (ℕ → Type 0) → Option Draft → ℕ → Type 0
AsGiven rings gates None s = rings s
AsGiven rings gates (Some response) s = gates s

-- the sources that are waited for: the writer's where something is under way
abbrev pub Waits : (ℕ → Type 0) → (ℕ → Type 0) → List ℕ → ℕ → Type 0
Waits others needs [] s = others s
Waits others needs (b ∷ owed) s = needs s

-- what has ended
abbrev pub OnGoing : {R : Type 0} → Poll (Option R) → Type 0 → Type 0
OnGoing Pending P = P
OnGoing (Ready None) P = P
OnGoing (Ready (Some r)) P = ⊤

abbrev pub IfEnded : {R : Type 0} → Poll (Option R) → (R → Type 0) → Type 0
IfEnded Pending P = ⊤
IfEnded (Ready None) P = ⊤
IfEnded (Ready (Some r)) P = P r

-- A poll that was refused ends the writing well where the stream isn't open.
abbrev pub EndOf : {T : Type 0} → Refusal → Result T Refusal → Type 0
EndOf e (Ok x) = e ≡ NoStream
EndOf e (Err why) = (why ≡ e) × (e ≢ NoStream)

-- ---- to the end

-- the close of the stream is asked for, where the writing stopped before a poll found that it isn't open
abbrev pub Closes : {T : Type 0} → ℕ → List (ℕ × Record) → List Record → Result T Refusal → Type 0
Closes stream closing tries (Ok x) = (closing ≡ []) × (tries ≡ [])
Closes stream closing tries (Err e) = IsClosing stream closing tries

-- `WritesAll` from any state on
abbrev pub WritesOn : {T : Type 0} → ℕ → WriteAt → Result T Refusal → WriteAt → Type 0
WritesOn stream a r b =
    (polls closing : List (ℕ × Record)) × (before tries : List Record) × (b.told ≡ a.told ++ (polls ++ closing)) × (b.refused ≡ a.refused ++ (before ++ tries))
    × Goes stream polls before a r b × Closes stream closing tries r
