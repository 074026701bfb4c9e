-- Messages that were answered whole, and what a replica and a writer are then. This project's own.
--     Served             a message that was answered, with its responses
--     IsServed           these belong together
--     frames_of          the bytes of their frames
--     events_of          their events: for each its request, and polls until one gave none
--     sent_by            the bytes of their responses
--     Does               these events are made one after another, answered as they say; this text is written
use Rattle.std.specs.Prelude.{◌≡◌, ℕ, List, All}
use Rattle.std.specs.List.{flat_map}
use Rattle.xds_message.specs.declared.draft.Draft.{Draft}
use Rattle.xds_ledger.specs.declared.outcome.Outcome.{Outcome}
use Rattle.xds_frames.specs.Frames.{Framed, IsFrame, frame_bytes}
use Rattle.xds_frames.specs.Devices.{Device, Wrote}
use Rattle.xds_core.specs.Streams.{Message}
use Rattle.xds_core.specs.Steps.{Core}
use Rattle.xds_core.specs.Legal.{Record, IsLegal, replayed}
use Rattle.xds_node.specs.Requests.{Spells}
use Rattle.xds_node.specs.Records.{answered}
use Rattle.xds_node.specs.Sending.{Fits, sent}

-- a message that was answered: its frame, the request that this spells, what became of it, and the responses that were sent
pub record Served : Type 0 where
  pub frame : Framed
  pub message : Message
  pub outcome : Outcome
  pub responses : List Draft

pub record IsServed (s : Served) : Type 0 where
  pub is_frame : IsFrame s.frame
  pub spells : Spells s.frame s.message
  pub fit : All Fits s.responses

-- the bytes of their frames
abbrev pub frames_of : List Served → List ℕ
frames_of served = flat_map (λ s. frame_bytes s.frame) served

-- their events: for each its request, and polls until one gave none
abbrev pub events_of : ℕ → List Served → List Record
events_of n served = flat_map (λ s. answered n s.message s.outcome s.responses) served

-- the bytes of their responses
abbrev pub sent_by : List Served → List ℕ
sent_by served = flat_map (λ s. sent s.responses) served

-- These events are made one after another, answered as they say; this text is written; and the replica is what they leave.
pub record Does (c : Core) (output : Device) (records : List Record) (text : List ℕ) (left : Core) : Type 0 where
  pub legal : IsLegal c records
  pub leaves : left ≡ replayed c records
  pub wrote : Wrote output text
