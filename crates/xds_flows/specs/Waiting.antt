-- What a poll of a reader comes to: it gave a piece, or failed, or is pending. This project's own.
--     Comes       what a read gave
--     Takes       what a write took
--     IsAwaited   nothing came yet
--     Gets        what a poll of a reader gave
--     ReadsOn     `ReadsAll`, where these bytes are held
--     Taken       a piece is put behind what is held, or none came
--     AtWork      the sources that the reading half of a stream waits for
use Rattle.std.specs.Prelude.{◌≡◌, ◌≤◌, ◌<◌, ◌⊎◌, ℕ, List, [], ◌++◌, take, length, Bool, Option, true, false, Result, Ok, Err}
use Rattle.std.specs.Io.KnownBytes.{Appends, Consumes, IsAtEnd}
use Rattle.xds_resource.specs.declared.refusal.Refusal.{Refusal}
use Rattle.xds_resource.specs.declared.refusal.Refusal.TheVariants.{OutOfMemory, Truncated, Device as DeviceRefusal}
use Rattle.futures.specs.declared.task.Poll.{Poll}
use Rattle.futures.specs.declared.task.Poll.TheVariants.{Ready, Pending}
use Rattle.xds_frames.specs.Devices.{Device, HasFailed}
use Rattle.xds_core.specs.Legal.{Record}
use Rattle.xds_node.specs.Sending.{NoneFailed}
use Rattle.xds_flows.specs.Reading.{HasRead}
use Rattle.xds_node.specs.WorkersTold.{IsClosing}

-- what a read gave: nothing yet; the front of a buffer; or a failure
abbrev pub Comes : {E : Type 0} → Option (List ℕ) → Option (List ℕ) → List ℕ → Poll (Result ℕ E) → Type 0
Comes b a buf Pending = Consumes b a []
Comes b a buf (Ready (Ok n)) = (n ≤ length buf) × Consumes b a (take n buf) × (n ≡ 0 → IsAtEnd a)
Comes b a buf (Ready (Err e)) = Consumes b a []

-- what a write took: nothing yet; the front of some bytes; or a failure
abbrev pub Takes : {E : Type 0} → Option (List ℕ) → Option (List ℕ) → List ℕ → Poll (Result ℕ E) → Type 0
Takes b a bytes Pending = Appends b a []
Takes b a bytes (Ready (Ok n)) = (n ≤ length bytes) × Appends b a (take n bytes)
Takes b a bytes (Ready (Err e)) = Appends b a []

-- nothing came yet
abbrev pub IsAwaited : Device → Type 0
IsAwaited d = Consumes d.before d.after [] × NoneFailed d

abbrev pub Gets : Device → List ℕ → Poll (Result ℕ Refusal) → Type 0
Gets d buf Pending = IsAwaited d
Gets d buf (Ready (Ok n)) = (n ≤ length buf) × Consumes d.before d.after (take n buf) × (n ≡ 0 → IsAtEnd d.after) × NoneFailed d
Gets d buf (Ready (Err e)) = (e ≡ DeviceRefusal) × Consumes d.before d.after [] × HasFailed d

-- `ReadsAll`, where these bytes are held
abbrev pub ReadsOn : {T : Type 0} → ℕ → List (ℕ × Record) → List Record → List ℕ → Device → Result T Refusal → Type 0
ReadsOn stream told tried held d r =
    (requests closing : List (ℕ × Record)) × (before tries : List Record) × (told ≡ requests ++ closing) × (tried ≡ before ++ tries)
    × HasRead stream requests before held d r × IsClosing stream closing tries

-- A piece is put behind what is held; or none came, and the input ends there; or there was no room.
abbrev pub Taken : List ℕ → List ℕ → Result Bool Refusal → List ℕ → Type 0
Taken held piece (Ok true) after = after ≡ held ++ piece
Taken held piece (Ok false) after = (piece ≡ []) × (held ≡ [])
Taken held piece (Err e) after = ((piece ≡ []) × (e ≡ Truncated) × (0 < length held)) ⊎ (e ≡ OutOfMemory)

-- the sources that the reading half of a stream waits for: the gate's until that was passed for the next read, and then the reader's
abbrev pub AtWork : (ℕ → Type 0) → (ℕ → Type 0) → Bool → ℕ → Type 0
AtWork gates needs false s = gates s
AtWork gates needs true s = needs s
