-- What joining a write leaves, and why a write that was read is refused.
use Rattle.std.proofs.Common.{◌≡◌, ◌≢◌, inl, inr, ℕ, List, [], ◌∷◌, Bool, true, false, Result, Ok, Err, refl, sym, subst}
use Rattle.std.specs.Prelude.{OnOk, IfErr, nat_lt}
use Rattle.std.proofs.lemmas.Bool.{ltb-true}
use Rattle.xds_resource.specs.declared.types.TypeName.{TypeName}
use Rattle.xds_resource.specs.declared.refusal.Refusal.{Refusal}
use Rattle.xds_resource.specs.declared.refusal.Refusal.TheVariants.{OutOfMemory, CounterSpent}
use Rattle.xds_resource.specs.Refusals.{Gives, unless_refused}
use Rattle.xds_resource.specs.Stamps.{max_counter}
use Rattle.xds_resource.specs.TypedWrites.{TypedWrite}
use Rattle.xds_resource.proofs.Refusing.{memory_or_not}
use Rattle.xds_catalogue.specs.Holdings.{Holdings}
use Rattle.xds_catalogue.specs.Joins.{joined}
use Rattle.xds_causes.specs.WriteLines.{IsWriteLine}
use Rattle.xds_program.specs.Faults.{RefusesWrite}

abbrev one_condition : {A : Type 0} → Bool → A → Result A Refusal
one_condition b a = unless_refused ((b, CounterSpent) ∷ []) a

-- an Ok under one condition leaves the value
pub after_ok : {A X : Type 0} (b : Bool) (r : Result X Refusal) (new a : A) → Gives (λ _. new) r (one_condition b a) → OnOk r (new ≡ a)
after_ok true (Ok x) new a h = cc
after_ok false (Ok x) new a h = cc
after_ok b (Err e) new a h = tt

-- an Err under one condition is of memory, or that condition's
pub after_err : {A X : Type 0} (b : Bool) (r : Result X Refusal) (new a : A) → Gives (λ _. new) r (one_condition b a) → IfErr r (λ e. e ≢ OutOfMemory → (e ≡ CounterSpent) × (b ≡ true))
after_err b (Ok x) new a h = tt
after_err true (Err e) new a h = λ other. let is = h other in (cc, refl)
after_err false (Err e) new a h = λ other. let is = h other in (cc, cc)

-- a write that was read is refused for memory, or since no further change can be counted
pub RefusesWrite-joining : (held : TypeName → Holdings) (line : List ℕ) (x : TypedWrite) (e : Refusal) → IsWriteLine line x
    → (e ≢ OutOfMemory → (e ≡ CounterSpent) × (nat_lt max_counter (joined (held x.0) (x.1 ∷ [])).changes ≡ true)) → RefusesWrite held line e
RefusesWrite-joining held line x e is why =
    elim (memory_or_not e) [
      | inl memory ↦ subst (RefusesWrite held line) (sym memory) tt
      | inr other ↦ let p = why other in subst (RefusesWrite held line) (sym p.0) (x, is, ltb-true max_counter (joined (held x.0) (x.1 ∷ [])).changes p.1)
    ]
