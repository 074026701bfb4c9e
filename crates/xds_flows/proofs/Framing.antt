-- A response of which no frame can be made isn't sent.
use Rattle.std.proofs.Common.{◌≡◌, ℕ, List, [], Option, Err, inl, inr, refl, sym, subst}
use Rattle.std.proofs.KnownBytes.{Appends-nil}
use Rattle.xds_resource.specs.declared.refusal.Refusal.{Refusal}
use Rattle.xds_message.specs.declared.draft.Draft.{Draft}
use Rattle.xds_message.specs.DraftTexts.{text_of}
use Rattle.xds_frames.specs.Frames.{IsFrame}
use Rattle.xds_frames.proofs.Gatherings.{of_calls as dev}
use Rattle.xds_node.specs.Sending.{IsUnframed, Sends, kind_of}

pub unframed : (X : Type 0) (d : Draft) (text : List ℕ) (b : Option (List ℕ)) (f : ℕ) (e : Refusal) → text ≡ text_of d
    → IsUnframed (record { kind = kind_of d; text = text }) e → Sends {T = X} d (Err e) (dev b b f f)
unframed X d text b f e is (inl long) =
    ([], Appends-nil b, inl (long.0, (λ fits. long.1 (subst (λ t. IsFrame (record { kind = kind_of d; text = t })) (sym is) fits)), refl, refl))
unframed X d text b f e is (inr memory) = ([], Appends-nil b, inr (inl (memory, refl, refl)))
