-- A field holds one value at most, and so a value spells one part of a message.
use Rattle.std.proofs.Common.{◌≡◌, ℕ, ℤ, List, [], ◌∷◌, map, Option, Some, None, IsSomeAnd, refl, sym, ap, ◌∙◌, pos}
use Rattle.serde_json.specs.Data.{Data, null, boolean, number, string, array, object}
use Rattle.serde_json.specs.View.{items_of}
use Rattle.xds_json.specs.Spelling.{IsWhole, IsOrDefault, IsText, IsTexts, IsObjects, IsCode, IsInner, set_value}
use Rattle.xds_json.specs.Parts.{Identity, Failure, SpellsIdentity, SpellsFailure}
use Rattle.xds_json.proofs.Lists.{items_of-injective}

pub IsOrDefault-unique : {A : Type 0} (default : A) (Is : Data → A → Type 0) → ((d : Data) (a b : A) → Is d a → Is d b → a ≡ b) → (o : Option Data) (a b : A) → IsOrDefault default Is o a → IsOrDefault default Is o b → a ≡ b
IsOrDefault-unique default Is unique None a b p q = p ∙ sym q
IsOrDefault-unique default Is unique (Some d) a b p q = unique d a b p q

pub IsText-unique : (o : Option Data) (s t : List ℕ) → IsText o s → IsText o t → s ≡ t
IsText-unique o s t p q = IsOrDefault-unique [] _ (λ d a b x y. let same = sym x ∙ y in cc) (set_value o) s t p q

map-string-injective : (ss ts : List (List ℕ)) → map string ss ≡ map string ts → ss ≡ ts
map-string-injective [] [] e = refl
map-string-injective [] (t ∷ ts) e = cc
map-string-injective (s ∷ ss) [] e = cc
map-string-injective (s ∷ ss) (t ∷ ts) e = let rest = map-string-injective ss ts cc in cc

same_items : (d : Data) (xs ys : List Data) → d ≡ array (items_of xs) → d ≡ array (items_of ys) → xs ≡ ys
same_items d xs ys p q = items_of-injective xs ys (let same = sym p ∙ q in cc)

pub IsTexts-unique : (o : Option Data) (ss ts : List (List ℕ)) → IsTexts o ss → IsTexts o ts → ss ≡ ts
IsTexts-unique o ss ts p q = IsOrDefault-unique [] _ (λ d a b x y. map-string-injective a b (same_items d (map string a) (map string b) x y)) (set_value o) ss ts p q

pub IsObjects-unique : (o : Option Data) (xs ys : List Data) → IsObjects o xs → IsObjects o ys → xs ≡ ys
IsObjects-unique o xs ys p q = IsOrDefault-unique [] _ (λ d a b x y. same_items d a b x.0 y.0) (set_value o) xs ys p q

pub IsWhole-unique : (d : Data) (z w : ℤ) → IsWhole d z → IsWhole d w → z ≡ w
IsWhole-unique null z w p q = absurd p
IsWhole-unique (boolean b) z w p q = absurd p
IsWhole-unique (number n) z w p q = let same = sym p ∙ q in cc
IsWhole-unique (string s) z w p q = p.1 ∙ sym q.1
IsWhole-unique (array ds) z w p q = absurd p
IsWhole-unique (object ms) z w p q = absurd p

pub IsCode-unique : (o : Option Data) (z w : ℤ) → IsCode o z → IsCode o w → z ≡ w
IsCode-unique o z w p q = IsOrDefault-unique (pos 0) _ (λ d a b x y. IsWhole-unique d a b x.0 y.0) (set_value o) z w p q

pub IsSomeAnd-unique : {A : Type 0} (P : A → Type 0) → ((a b : A) → P a → P b → a ≡ b) → (m n : Option A) → IsSomeAnd m P → IsSomeAnd n P → m ≡ n
IsSomeAnd-unique P unique None n p q = absurd p
IsSomeAnd-unique P unique (Some a) None p q = absurd q
IsSomeAnd-unique P unique (Some a) (Some b) p q = ap Some (unique a b p q)

pub IsInner-unique : {A : Type 0} (Spells : Data → A → Type 0) → ((d : Data) (a b : A) → Spells d a → Spells d b → a ≡ b) → (o : Option Data) (m n : Option A) → IsInner Spells o m → IsInner Spells o n → m ≡ n
IsInner-unique Spells unique o m n p q = IsOrDefault-unique None _ (λ d a b x y. IsSomeAnd-unique (Spells d) (unique d) a b x y) (set_value o) m n p q

pub SpellsIdentity-unique : (d : Data) (m n : Identity) → SpellsIdentity d m → SpellsIdentity d n → m ≡ n
SpellsIdentity-unique d m n p q =
    let id = IsText-unique _ m.id n.id p.id q.id in
    let cluster = IsText-unique _ m.cluster n.cluster p.cluster q.cluster in
    λ i. record { id = id i; cluster = cluster i }

pub SpellsFailure-unique : (d : Data) (m n : Failure) → SpellsFailure d m → SpellsFailure d n → m ≡ n
SpellsFailure-unique d m n p q =
    let code = IsCode-unique _ m.code n.code p.code q.code in
    let message = IsText-unique _ m.message n.message p.message q.message in
    λ i. record { code = code i; message = message i }
