-- Bodies that are sound one by one.
use Rattle.std.proofs.Common.{◌≡◌, ◌≤◌, ℕ, List, map, false, All, Option, Some, None, [], ◌∷◌, ◌++◌, refl, append_assoc}
use Rattle.std.proofs.lemmas.List.Elements.{All-map, All-weaker}
use Rattle.std.specs.List.{cons_option}
use Rattle.serde_json.specs.Data.{Data, depth}
use Rattle.serde_json.specs.Written.{has_float}
use Rattle.xds_resource.specs.Resources.{value_of, max_nesting}
use Rattle.xds_message.specs.Spelling.{IsObject}
use Rattle.xds_message.specs.Drafts.{IsBodyText, AreSound, with_text}

each : {A : Type 0} (body : A → List ℕ) (Q : Data → Type 0) → ((b : List ℕ) → IsBodyText b → Q (value_of b)) → (xs : List A) → All (λ x. IsBodyText (body x)) xs → All Q (map (λ x. value_of (body x)) xs)
each body Q to xs h = All-map Q (λ x. value_of (body x)) xs (All-weaker (λ x. IsBodyText (body x)) (λ x. Q (value_of (body x))) (λ x sound. to (body x) sound) xs h)

pub AreSound-each : {A : Type 0} (body : A → List ℕ) (xs : List A) → All (λ x. IsBodyText (body x)) xs → AreSound (map (λ x. value_of (body x)) xs)
AreSound-each body xs h = record {
  whole = each body (λ d. has_float d ≡ false) (λ b sound. sound.whole) xs h;
  shallow = each body (λ d. depth d ≤ max_nesting) (λ b sound. sound.shallow) xs h;
  objects = each body IsObject (λ b sound. sound.is_object) xs h;
}

pub texts_step : (bodies : List (List ℕ)) (body : Option (List ℕ)) (rest : List (List ℕ)) → with_text bodies body ++ rest ≡ bodies ++ cons_option body rest
texts_step bodies None rest = refl
texts_step bodies (Some b) rest = append_assoc bodies (b ∷ []) rest
