-- What a line was read from, and why nothing else could be.
use Rattle.std.proofs.Common.{◌≡◌, ◌≢◌, ℕ, zero, suc, arith, List, [], ◌∷◌, Result, Ok, Err, ap, sym, ◌∙◌, subst}
use Rattle.std.specs.Prelude.{IfOk, IfErr, IsErrAnd, Contains}
use Rattle.serde_json.specs.Data.{Data}
use Rattle.xds_resource.specs.declared.refusal.Refusal.{Refusal}
use Rattle.xds_resource.specs.declared.refusal.Refusal.TheVariants.{NotJson, BadMessage, OutOfMemory, BadTrace}
use Rattle.xds_json.specs.Spelling.{IsJson}
use Rattle.xds_json.proofs.Lists.{one_value}
use Rattle.xds_check.specs.Texts.{IsJsonOf}
use Rattle.xds_check.specs.Words.{Finds}

-- a message that was refused, but for memory, is spelled by nothing
no_message : {Y : Type 0} (Spells : Data → Y → Type 0) (json : List ℕ) (f : Refusal) → Contains (NotJson ∷ BadMessage ∷ OutOfMemory ∷ []) f → f ≢ OutOfMemory
    → (f ≡ NotJson → (d : Data) → IsJson json d → ⊥) → (f ≡ BadMessage → (d : Data) × IsJson json d × ((y : Y) → Spells d y → ⊥)) → (y : Y) → IsJsonOf Spells json y → ⊥
no_message Spells json f (zero, small, e) other no_json bad y is = no_json (sym e) is.0 is.1
no_message Spells json f (suc zero, small, e) other no_json bad y is = let b = bad (sym e) in b.2 y (subst (λ d. Spells d y) (one_value json is.0 b.0 is.1 b.1) is.2)
no_message Spells json f (suc (suc zero), small, e) other no_json bad y is = other (sym e)
no_message Spells json f (suc (suc (suc n)), small, e) other no_json bad y is = absurd (omega (arith, small))

pub message_found : {X Y : Type 0} (view : X → Y) (Spells : Data → Y → Type 0) (json : List ℕ) (read result : Result X Refusal)
    → IfOk read (λ x. (d : Data) × IsJson json d × Spells d (view x)) → (read ≡ Err NotJson → (d : Data) → IsJson json d → ⊥)
    → (read ≡ Err BadMessage → (d : Data) × IsJson json d × ((y : Y) → Spells d y → ⊥)) → IfErr read (λ e. Contains (NotJson ∷ BadMessage ∷ OutOfMemory ∷ []) e)
    → IfOk result (λ x. read ≡ Ok x) → IfErr result (λ e. e ≢ OutOfMemory → (e ≡ BadTrace) × IfOk read (λ _. ⊥) × IfErr read (λ f. f ≢ OutOfMemory))
    → Finds view (IsJsonOf Spells json) result
message_found view Spells json (Ok r) (Ok x) ok no_json bad among same refused = let e : r ≡ x = cc in subst (λ x. IsJsonOf Spells json (view x)) e ok
message_found view Spells json (Err f) (Ok x) ok no_json bad among same refused = cc
message_found view Spells json (Ok r) (Err e) ok no_json bad among same refused = λ other. absurd ((refused other).1)
message_found view Spells json (Err f) (Err e) ok no_json bad among same refused = λ other.
    let r = refused other in
    (r.0, no_message Spells json f among r.2 (λ e. no_json (ap Err e)) (λ e. bad (ap Err e)))

-- a call that fails as one of its parts did
pub Finds-refused : {X Y W Z : Type 0} (P : Y → Type 0) (Q : Z → Type 0) (view : X → Y) (part_view : W → Z) (r : Result X Refusal) (part : Result W Refusal) (e : Refusal) → IsErrAnd r (λ f. f ≡ e) → part ≡ Err e
    → Finds part_view Q part → ((y : Y) → P y → (z : Z) × Q z) → Finds view P r
Finds-refused P Q view part_view (Ok x) part e failed part_failed h to = absurd failed
Finds-refused P Q view part_view (Err f) part e failed part_failed h to =
    λ other. let k = (rw part_failed at h) (rw (← failed) other) in (failed ∙ k.0, λ y fits. let z = to y fits in k.1 z.0 z.1)
