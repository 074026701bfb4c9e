-- What is refused where a parcel is unpacked: no frame of a batch, but for want of memory.
use Rattle.std.proofs.Common.{◌≡◌, ℕ, zero, suc, arith, List, [], ◌∷◌, Option, Some, Result, Ok, Err, ap, sym, ◌∙◌, subst}
use Rattle.std.specs.Prelude.{IfErr, Contains}
use Rattle.serde_json.specs.Data.{Data}
use Rattle.xds_resource.specs.declared.refusal.Refusal.{Refusal}
use Rattle.xds_resource.specs.declared.refusal.Refusal.TheVariants.{NotJson, BadMessage, OutOfMemory}
use Rattle.xds_resource.specs.PerType.{PerType}
use Rattle.xds_resource.specs.Writes.{StampedWrite}
use Rattle.xds_json.specs.Spelling.{IsJson}
use Rattle.xds_json.proofs.Lists.{one_value}
use Rattle.xds_frames.specs.declared.frame.Frame.{Frame}
use Rattle.xds_frames.specs.declared.frame.FrameKind.TheVariants as kinds
use Rattle.xds_frames.specs.Frames.{Framed}
use Rattle.xds_frames.specs.Decoding.{GivesNext, framed}
use Rattle.xds_frames.proofs.Standing.{found}
use Rattle.xds_message.specs.Batches.{SpellsBatch}
use Rattle.xds_flows.specs.Parcels.{IsFrameOf}

abbrev Parts : Type 0
Parts = PerType (List StampedWrite)

-- the frame that is found in a parcel
given : (bytes after : List ℕ) (r : Result (Option Frame) Refusal) → GivesNext bytes r after → (b : Parts) → (is : IsFrameOf bytes b) → (g : Frame) × (r ≡ Ok (Some g)) × (framed g ≡ record { kind = kinds.Batch; text = is.0 })
given bytes after r gives b is =
    let next = found (record { kind = kinds.Batch; text = is.0 }) is.1 after r is.3 (subst (λ bs. GivesNext bs r after) is.4 gives) in
    (next.0, next.1, next.2)

-- the frame that was read is the parcel's
same_frame : (bytes after : List ℕ) (f : Frame) → GivesNext bytes (Ok (Some f)) after → (b : Parts) → (is : IsFrameOf bytes b) → framed f ≡ record { kind = kinds.Batch; text = is.0 }
same_frame bytes after f gives b is = let g = given bytes after (Ok (Some f)) gives b is in let same : f ≡ g.0 = cc in ap framed same ∙ g.2

-- a text of a batch is refused for want of memory alone
batch_read : (text : List ℕ) (f : Refusal) → Contains (NotJson ∷ BadMessage ∷ OutOfMemory ∷ []) f → (f ≡ NotJson → (d : Data) → IsJson text d → ⊥)
    → (f ≡ BadMessage → (d : Data) × IsJson text d × ((b : Parts) → SpellsBatch d b → ⊥)) → (b : Parts) (d : Data) → IsJson text d → SpellsBatch d b → f ≡ OutOfMemory
batch_read text f (zero, small, e) no_json bad b d is spells = absurd (no_json (sym e) d is)
batch_read text f (suc zero, small, e) no_json bad b d is spells = let w = bad (sym e) in absurd (w.2 b (subst (λ x. SpellsBatch x b) (one_value text d w.0 is w.1) spells))
batch_read text f (suc (suc zero), small, e) no_json bad b d is spells = sym e
batch_read text f (suc (suc (suc n)), small, e) no_json bad b d is spells = absurd (omega (arith, small))

pub text_read : {X : Type 0} (held bytes after : List ℕ) (f : Frame) (first : Result (Option Frame) Refusal) (r : Result X Refusal) → GivesNext bytes first after → bytes ≡ held → first ≡ Ok (Some f)
    → (r ≡ Err NotJson → (d : Data) → IsJson f.text.now d → ⊥) → (r ≡ Err BadMessage → (d : Data) × IsJson f.text.now d × ((b : Parts) → SpellsBatch d b → ⊥))
    → IfErr r (λ e. Contains (NotJson ∷ BadMessage ∷ OutOfMemory ∷ []) e) → IfErr r (λ e. (b : Parts) → IsFrameOf held b → e ≡ OutOfMemory)
text_read held bytes after f first (Err e) gives same some no_json bad among = λ b is.
    let g : GivesNext held (Ok (Some f)) after = subst (λ x. GivesNext held x after) some (subst (λ bs. GivesNext bs first after) same gives) in
    let text = ap (λ (g : Framed). g.text) (same_frame held after f g b is) in
    batch_read f.text.now e among (λ z. no_json (ap Err z)) (λ z. bad (ap Err z)) b is.2 (subst (λ t. IsJson t is.2) (sym text) is.5) is.6
text_read held bytes after f first (Ok x) gives same some no_json bad among = tt
