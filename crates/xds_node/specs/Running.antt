-- A stream from its opening to its close: which bytes were read, which events were made, which bytes were written, and what is answered.
-- This project's own; the responses are those of Envoy's "xDS REST and gRPC protocol".
--     Serves         the messages of an open stream are answered one after another, until it ends
--     IsUnopened     the stream wasn't opened, and nothing happened
--     HasRun         the stream opens, its messages are served, and it closes, however that ended
--     Runs           a stream has run, or it couldn't be opened
use Rattle.std.specs.Prelude.{◌≡◌, ◌⊎◌, ℕ, List, [], ◌++◌, All, Result, Ok, Err}
use Rattle.std.specs.Io.KnownBytes.{Consumes}
use Rattle.xds_resource.specs.declared.refusal.Refusal.{Refusal}
use Rattle.xds_frames.specs.Devices.{Device, Stays}
use Rattle.xds_core.specs.Events.{Open, Close, Opened, Closed}
use Rattle.xds_core.specs.Steps.{Core, step}
use Rattle.xds_core.specs.Legal.{Record, replayed}
use Rattle.xds_node.specs.Records.{Refuses}
use Rattle.xds_node.specs.Sending.{NoneFailed}
use Rattle.xds_node.specs.Serving.{Served, IsServed, Does, frames_of, events_of, sent_by}
use Rattle.xds_node.specs.Ending.{Ends}

-- The messages of an open stream are answered one after another, until it ends. `held` are bytes that were read before; with those
-- that came they are the frames of the messages that were answered, and the rest. The events are those of these messages and the last
-- ones; the responses that the events gave were written, each as a frame, and a part of what the last ones gave.
pub record Serves {T : Type 0} (n : ℕ) (c : Core) (held : List ℕ) (input output : Device) (r : Result T Refusal) (left : Core) : Type 0 where
  pub came : List ℕ
  pub served : List Served
  pub rest : List ℕ
  pub last : List Record
  pub part : List ℕ
  pub read : Consumes input.before input.after came
  pub joined : held ++ came ≡ frames_of served ++ rest
  pub are_served : All IsServed served
  pub does : Does c output (events_of n served ++ last) (sent_by served ++ part) left
  pub ends : Ends n (replayed c (events_of n served)) rest last part r input output

-- The stream wasn't opened, and nothing happened.
abbrev pub IsUnopened : {T : Type 0} → Core → Device → Device → Result T Refusal → Core → Type 0
IsUnopened c input output (Ok x) left = ⊥
IsUnopened c input output (Err e) left = Refuses c Open e × (left ≡ c) × Stays input × NoneFailed input × Stays output × NoneFailed output

-- The stream opens, its messages are served, and it closes, however that ended.
pub record HasRun {T : Type 0} (c : Core) (input output : Device) (r : Result T Refusal) (left : Core) : Type 0 where
  pub number : ℕ
  pub begun : Core
  pub ended : Core
  pub opens : step c Open ≡ Ok (Opened number, begun)
  pub serves : Serves number begun [] input output r ended
  pub closes : step ended (Close number) ≡ Ok (Closed, left)

abbrev pub Runs : {T : Type 0} → Core → Device → Device → Result T Refusal → Core → Type 0
Runs c input output r left = HasRun c input output r left ⊎ IsUnopened c input output r left
