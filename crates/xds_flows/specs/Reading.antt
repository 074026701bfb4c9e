-- What the reading thread of a stream does: it reads frames, and asks the replica for each the request that it spells. This project's
-- own; the requests are those of discovery.proto.
--     Asking                           a frame, the request that it spells, what the seat was told of that, and the tries before
--     IsAsking                         these belong together
--     IsTaken                          the request was taken or ignored, and not refused
--     bytes_of                         the bytes of all frames that were asked
--     told_of                          the records that the seat was told
--     tried_of                         the tries that left no record
--     IsRead                           these frames were read, and their requests were taken
--     IsRequestRefused                 a request is refused, and this was told; or it left no record
--     IsStop                           why the reading stops where these bytes are left of those that were read
--     IsEnd                            how it ends: well at the end of the input, with nothing left
--     HasRead                          all requests that were told
--     ReadsAll                         the same of the whole thread
--     TurnReads                        one turn: it goes on, or it ends
--     Asks                             a request is taken, or why it isn't
use Rattle.std.specs.Prelude.{◌≡◌, ◌⊎◌, ℕ, List, [], ◌∷◌, ◌++◌, map, All, Bool, true, false, Result, Ok, Err}
use Rattle.std.specs.List.{flat_map}
use Rattle.std.specs.Io.KnownBytes.{Consumes, IsAtEnd}
use Rattle.xds_resource.specs.declared.refusal.Refusal.{Refusal}
use Rattle.xds_frames.specs.Frames.{Framed, IsFrame, frame_bytes}
use Rattle.xds_frames.specs.Devices.{Device}
use Rattle.xds_core.specs.Streams.{Message}
use Rattle.xds_core.specs.Events.{Request}
use Rattle.xds_core.specs.Legal.{Record}
use Rattle.xds_node.specs.Told.{LeavesNoRecord}
use Rattle.xds_node.specs.Requests.{Spells}
use Rattle.xds_node.specs.Ending.{EndsWithin, IsUnread}
use Rattle.xds_node.specs.Sending.{NoneFailed}
use Rattle.xds_node.specs.WorkersTold.{IsGranted, IsClosing, IsTriedBefore, IsTriedInVain}

-- a frame, the request that it spells, what the seat was told of that, and the tries of it that left no record
pub record Asking : Type 0 where
  pub frame : Framed
  pub message : Message
  pub told : ℕ × Record
  pub tried : List Record

pub record IsAsking (stream : ℕ) (a : Asking) : Type 0 where
  pub is_frame : IsFrame a.frame
  pub spells : Spells a.frame a.message
  pub event_is : a.told.1.event ≡ Request stream a.message
  pub is_tried : IsTriedBefore (Request stream a.message) a.tried

-- the request was taken or ignored, and not refused
abbrev pub IsTaken : Asking → Type 0
IsTaken a = IsGranted a.told

abbrev pub bytes_of : List Asking → List ℕ
bytes_of asked = flat_map (λ a. frame_bytes a.frame) asked

abbrev pub told_of : List Asking → List (ℕ × Record)
told_of asked = map (λ a. a.told) asked

abbrev pub tried_of : List Asking → List Record
tried_of asked = flat_map (λ a. a.tried) asked

-- These frames were read, and their requests were taken; these bytes are held behind them.
pub record IsRead (stream : ℕ) (told : List (ℕ × Record)) (tried : List Record) (held : List ℕ) (d : Device) (after : List ℕ) : Type 0 where
  pub came : List ℕ
  pub asked : List Asking
  pub read : Consumes d.before d.after came
  pub joined : held ++ came ≡ bytes_of asked ++ after
  pub are_asked : All (IsAsking stream) asked
  pub taken : All IsTaken asked
  pub told_are : told ≡ told_of asked
  pub tried_are : tried ≡ tried_of asked
  pub none_failed : NoneFailed d

-- A request is refused, and this was told; or it left no record. These tries left none.
abbrev pub IsRequestRefused : ℕ → Message → List (ℕ × Record) → List Record → Refusal → Type 0
IsRequestRefused stream m last tries e =
    ((entry : ℕ × Record) × (last ≡ entry ∷ []) × (entry.1.event ≡ Request stream m) × (entry.1.answer ≡ Err e)
    × IsTriedBefore (Request stream m) tries)
    ⊎ (LeavesNoRecord e × (last ≡ []) × IsTriedInVain (Request stream m) e tries)

-- Why the reading stops where these bytes are left of those that were read: less than a frame is left or what is none, the next frame
-- spells no request, or its request is refused. Only the last asks for anything.
abbrev pub IsStop : ℕ → List ℕ → List (ℕ × Record) → List Record → Refusal → Device → Type 0
IsStop stream rest last tries e d =
    (EndsWithin rest e d × (last ≡ []) × (tries ≡ []))
    ⊎ ((f : Framed) × (more : List ℕ) × IsFrame f × (rest ≡ frame_bytes f ++ more) × NoneFailed d
    × ((IsUnread f e × (last ≡ []) × (tries ≡ [])) ⊎ ((m : Message) × Spells f m × IsRequestRefused stream m last tries e)))

-- how it ends: well at the end of the input, with nothing left, and else with the first refusal
abbrev pub IsEnd : {T : Type 0} → ℕ → List ℕ → List (ℕ × Record) → List Record → Result T Refusal → Device → Type 0
IsEnd stream rest last tries (Ok x) d = (rest ≡ []) × (last ≡ []) × (tries ≡ []) × IsAtEnd d.after × NoneFailed d
IsEnd stream rest last tries (Err e) d = IsStop stream rest last tries e d

-- All requests that were told: those of the frames that were read, in order, each taken, and at most one more, which is refused. All
-- tries that left no record are of these, or of the request at which it stops. `held` are bytes that were read before.
pub record HasRead {T : Type 0} (stream : ℕ) (told : List (ℕ × Record)) (tried : List Record) (held : List ℕ) (d : Device) (r : Result T Refusal) : Type 0 where
  pub came : List ℕ
  pub asked : List Asking
  pub rest : List ℕ
  pub last : List (ℕ × Record)
  pub tries : List Record
  pub read : Consumes d.before d.after came
  pub joined : held ++ came ≡ bytes_of asked ++ rest
  pub are_asked : All (IsAsking stream) asked
  pub taken : All IsTaken asked
  pub told_are : told ≡ told_of asked ++ last
  pub tried_are : tried ≡ tried_of asked ++ tries
  pub ends : IsEnd stream rest last tries r d

-- The same of the whole thread, which asks for the close of the stream in every case, and for nothing behind that.
abbrev pub ReadsAll : {T : Type 0} → ℕ → List (ℕ × Record) → List Record → Device → Result T Refusal → Type 0
ReadsAll stream told tried d r =
    (requests closing : List (ℕ × Record)) × (before tries : List Record) × (told ≡ requests ++ closing) × (tried ≡ before ++ tries)
    × HasRead stream requests before [] d r × IsClosing stream closing tries

-- one turn: it goes on, or it ends
abbrev pub TurnReads : ℕ → List (ℕ × Record) → List Record → List ℕ → Device → Result Bool Refusal → List ℕ → Type 0
TurnReads stream told tried held d (Ok true) after = IsRead stream told tried held d after
TurnReads stream told tried held d (Ok false) after = HasRead {T = Bool} stream told tried held d (Ok false)
TurnReads stream told tried held d (Err e) after = HasRead {T = Bool} stream told tried held d (Err e)

-- a request is taken, or why it isn't
abbrev pub Asks : {T : Type 0} → ℕ → Message → List (ℕ × Record) → List (ℕ × Record) → List Record → Result T Refusal → Type 0
Asks stream m old new tries (Ok x) =
    (entry : ℕ × Record) × (new ≡ old ++ entry ∷ []) × (entry.1.event ≡ Request stream m) × IsGranted entry × IsTriedBefore (Request stream m) tries
Asks stream m old new tries (Err e) = (last : List (ℕ × Record)) × (new ≡ old ++ last) × IsRequestRefused stream m last tries e
