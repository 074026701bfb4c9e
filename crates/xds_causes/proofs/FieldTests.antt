-- What tests of fields tell.
use Rattle.std.proofs.Common.{◌≡◌, ◌≤◌, ◌||◌, ◌∙◌, ℕ, List, Bool, true, false, refl, sym, subst, arith, Option, Some, None, Result, Ok, Err, IfOk, true≢false}
use Rattle.std.specs.Prelude.{not, nat_lt}
use Rattle.std.proofs.lemmas.Bool.{ltb-false, ltb-true}
use Rattle.serde_json.specs.Data.{Data, number, string, unsigned}
use Rattle.xds_resource.specs.declared.refusal.Refusal.{Refusal}
use Rattle.xds_resource.specs.Resources.{is_valid_name}
use Rattle.xds_json.specs.Spelling.{Reads}
use Rattle.xds_causes.specs.Fields.{HasName, HasNumber, Tells, WasRefused}

-- a reader that refuses tells that nothing fits
read_tells : {X Y : Type 0} (Fits : Y → Type 0) (view : X → Y) (read : Result X Refusal) (b : Bool) → Reads Fits view read → WasRefused b read → Tells ((y : Y) × Fits y) b
read_tells Fits view (Ok x) false reads was = (view x, reads)
read_tells Fits view (Err e) false reads was = absurd was
read_tells Fits view (Ok x) true reads was = absurd was
read_tells Fits view (Err e) true reads was = λ p. (reads was).1 p.0 p.1

pub read_tells_or : {X Y E : Type 0} (Fits : Y → Type 0) (view : X → Y) (read : Result X Refusal) (r : Result Bool E) → Reads Fits view read → IfOk r (λ b. WasRefused b read)
    → IfOk r (Tells ((y : Y) × Fits y))
read_tells_or Fits view read (Ok b) reads was = read_tells Fits view read b reads was
read_tells_or Fits view read (Err e) reads was = tt

-- a number that stands there, by the tests on it
number_tested : (most n : ℕ) (o : Option Data) (low high : Bool) → nat_lt n 1 ≡ low → nat_lt most n ≡ high → o ≡ Some (number (unsigned n)) → Tells (HasNumber most o) (low || high)
number_tested most n o true high is_low is_high there = λ h.
    let same : h.0 ≡ n = cc in
    let small = ltb-true _ _ is_low in
    let least = h.2 in
    absurd (omega (arith, same, small, least))
number_tested most n o false true is_low is_high there = λ h.
    let same : h.0 ≡ n = cc in
    let great = ltb-true _ _ is_high in
    let less = h.3 in
    absurd (omega (arith, same, great, less))
number_tested most n o false false is_low is_high there =
    let least = ltb-false _ _ is_low in
    let less = ltb-false _ _ is_high in
    (n, there, omega (arith, least), less)

pub number_tells : (most n : ℕ) (o : Option Data) (b : Bool) → o ≡ Some (number (unsigned n)) → b ≡ (nat_lt n 1 || nat_lt most n) → Tells (HasNumber most o) b
number_tells most n o b there is = subst (Tells (HasNumber most o)) (sym is) (number_tested most n o (nat_lt n 1) (nat_lt most n) refl refl there)

pub no_number : (most : ℕ) (o : Option Data) → ((n : ℕ) → o ≡ Some (number (unsigned n)) → ⊥) → HasNumber most o → ⊥
no_number most o none h = none h.0 h.1

-- a name that stands there
name_tested : (name : List ℕ) (o : Option Data) (valid : Bool) → is_valid_name name ≡ valid → o ≡ Some (string name) → Tells (HasName o) (not valid)
name_tested name o true is there = (name, there, is)
name_tested name o false is there = λ h.
    let same : h.0 ≡ name = cc in
    true≢false (sym h.2 ∙ subst (λ (x : List ℕ). is_valid_name x ≡ false) (sym same) is)

pub name_tells : (name : List ℕ) (o : Option Data) (valid : Bool) → valid ≡ is_valid_name name → o ≡ Some (string name) → Tells (HasName o) (not valid)
name_tells name o valid is there = name_tested name o valid (sym is) there

pub no_name : (o : Option Data) → ((s : List ℕ) → o ≡ Some (string s) → ⊥) → HasName o → ⊥
no_name o none h = none h.0 h.1
