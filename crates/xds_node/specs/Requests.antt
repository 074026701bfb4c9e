-- What the frames of a client ask, or why they are refused. The requests are those of discovery.proto; the refusals are this
-- project's own.
--     IsAsking    a client sends requests alone, of either variant
--     SpellsAs    what a JSON value spells in a frame of this kind
--     Spells      the frame's text spells this request
--     IsRefused   the frame is refused
use Rattle.std.specs.Prelude.{◌≡◌, ◌⊎◌}
use Rattle.serde_json.specs.Data.{Data}
use Rattle.xds_resource.specs.declared.refusal.Refusal.{Refusal}
use Rattle.xds_resource.specs.declared.refusal.Refusal.TheVariants.{NotJson, BadMessage, WrongVariant}
use Rattle.xds_frames.specs.declared.frame.FrameKind.{FrameKind}
use Rattle.xds_frames.specs.declared.frame.FrameKind.TheVariants.{DiscoveryRequest, DeltaDiscoveryRequest}
use Rattle.xds_frames.specs.Frames.{Framed}
use Rattle.xds_message.specs.Spelling.{IsJson}
use Rattle.xds_message.specs.Messages.{SpellsRequest}
use Rattle.xds_message.specs.DeltaMessages.{SpellsDeltaRequest}
use Rattle.xds_core.specs.Streams.{Message, Sotw, Delta}

-- a client sends requests alone, of either variant
abbrev pub IsAsking : FrameKind → Type 0
IsAsking kind = (kind ≡ DiscoveryRequest) ⊎ (kind ≡ DeltaDiscoveryRequest)

-- what a JSON value spells in a frame of this kind
abbrev pub SpellsAs : FrameKind → Data → Message → Type 0
SpellsAs kind d (Sotw m) = (kind ≡ DiscoveryRequest) × SpellsRequest d m
SpellsAs kind d (Delta m) = (kind ≡ DeltaDiscoveryRequest) × SpellsDeltaRequest d m

-- the frame's text spells this request
abbrev pub Spells : Framed → Message → Type 0
Spells f m = (d : Data) × IsJson f.text d × SpellsAs f.kind d m

-- The frame is refused: it is none of a client, its text is no JSON, or a JSON value that spells no request.
abbrev pub IsRefused : Framed → Refusal → Type 0
IsRefused f e =
    ((e ≡ WrongVariant) × ¬ IsAsking f.kind)
    ⊎ (((e ≡ NotJson) × IsAsking f.kind × ((d : Data) → ¬ IsJson f.text d))
    ⊎ ((e ≡ BadMessage) × IsAsking f.kind × ((d : Data) × IsJson f.text d × ((m : Message) → ¬ SpellsAs f.kind d m))))
