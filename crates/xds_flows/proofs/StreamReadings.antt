-- Why a frame isn't read as a request.
use Rattle.std.proofs.Common.{◌≡◌, ◌⊎◌, ℕ, List, [], ◌∷◌, ◌++◌, Option, Some, Result, Ok, Err, inl, inr, sym, subst, ◌∙◌, arith}
use Rattle.std.specs.Prelude.{Contains, IfErr, IsErrAnd}
use Rattle.xds_resource.proofs.BestWrites.{Contains-cons_cases}
use Rattle.serde_json.specs.Data.{Data}
use Rattle.xds_resource.specs.declared.refusal.Refusal.{Refusal}
use Rattle.xds_resource.specs.declared.refusal.Refusal.TheVariants.{NotJson, BadMessage, OutOfMemory}
use Rattle.xds_frames.specs.declared.frame.FrameKind.TheVariants.{DiscoveryRequest, DeltaDiscoveryRequest}
use Rattle.xds_frames.specs.Frames.{Framed, IsFrame, frame_bytes}
use Rattle.xds_frames.specs.Decoding.{GivesNext, framed}
use Rattle.xds_frames.specs.declared.frame.Frame.{Frame}
use Rattle.xds_message.specs.Spelling.{IsJson}
use Rattle.xds_message.specs.DeltaMessages.{DeltaRequest, SpellsDeltaRequest}
use Rattle.xds_core.specs.Streams.{Message, Sotw, Delta}
use Rattle.xds_node.specs.Requests.{Spells, SpellsAs}
use Rattle.xds_node.specs.Ending.{IsUnread}

apart : DiscoveryRequest ≡ DeltaDiscoveryRequest → ⊥
apart same = absurd cc

-- what holds of the refusal that is passed on
pub if_err : {X : Type 0} (r : Result X Refusal) (e : Refusal) (P : Refusal → Type 0) → IsErrAnd r (λ f. f ≡ e) → P e → IfErr r P
if_err (Ok x) e P failed holds = absurd failed
if_err (Err f) e P failed holds = subst P (sym failed) holds

-- a frame that was given, and what it spells
pub given_message : (held after : List ℕ) (r : Result (Option Frame) Refusal) (f : Frame) (m : Message) → r ≡ Ok (Some f) → GivesNext held r after → Spells (framed f) m
    → (x : Framed) × IsFrame x × (held ≡ frame_bytes x ++ after) × Spells x m
given_message held after r f m is gives spells =
    let given = subst (λ (o : Result (Option Frame) Refusal). GivesNext held o after) is gives in
    (framed f, given.0, given.1, spells)

-- one of the three refusals that a reader of a message has
data_of : (e : Refusal) → Contains (NotJson ∷ BadMessage ∷ OutOfMemory ∷ []) e → (e ≡ NotJson) ⊎ ((e ≡ BadMessage) ⊎ (e ≡ OutOfMemory))
data_of e among =
    elim (Contains-cons_cases NotJson e (BadMessage ∷ OutOfMemory ∷ []) among) [
      | inl is ↦ inl (sym is)
      | inr later ↦ elim (Contains-cons_cases BadMessage e (OutOfMemory ∷ []) later) [
        | inl is ↦ inr (inl (sym is))
        | inr last ↦ elim (Contains-cons_cases OutOfMemory e [] last) [
          | inl is ↦ inr (inr (sym is))
          | inr none ↦ absurd (omega (arith, none.1))
        ]
      ]
    ]

pub unread_delta : (f : Framed) (e : Refusal) → f.kind ≡ DeltaDiscoveryRequest → Contains (NotJson ∷ BadMessage ∷ OutOfMemory ∷ []) e
    → (e ≡ NotJson → (d : Data) → IsJson f.text d → ⊥)
    → (e ≡ BadMessage → (d : Data) × IsJson f.text d × ((m : DeltaRequest) → SpellsDeltaRequest d m → ⊥)) → IsUnread f e
unread_delta f e kind among no_json bad =
    elim (data_of e among) [
      | inl is ↦ inl (inr (inl (is, inr kind, no_json is)))
      | inr (inl is) ↦ inl (inr (inr (is, inr kind, ((bad is).0, (bad is).1, none (bad is).0 (bad is).2))))
      | inr (inr is) ↦ inr (is, inr kind)
    ]
  where
    none : (d : Data) → ((m : DeltaRequest) → SpellsDeltaRequest d m → ⊥) → (m : Message) → SpellsAs f.kind d m → ⊥
    none d never (Sotw m) spells = absurd (apart (sym spells.0 ∙ kind))
    none d never (Delta m) spells = never m spells.1
