-- Conditions in a row: what holds of all of them from what holds of the first ones.
use Rattle.std.proofs.Common.{◌≡◌, List, [], ◌∷◌, ◌++◌, Bool, true, false, cond, Result, Ok, Err, refl, ◌≢◌, ◌⊎◌, inl, inr, subst, sym}
use Rattle.std.specs.Prelude.{IsErrAnd, if◌then◌else◌}
use Rattle.xds_resource.specs.declared.refusal.Refusal.{Refusal}
use Rattle.xds_resource.specs.declared.refusal.Refusal.TheVariants.{NotJson, TooDeep, NotWhole, BadResource, BadName, TooLong, BadMessage, OutOfMemory, NotFound, CounterSpent, BadStamp, NoStream, WrongVariant, NonceSpent, EmptyFrame, FrameTooLong, UnknownKind, Truncated, Device, JournalFull, BadScript, BadTrace, Gap, BadGroup}
use Rattle.xds_resource.specs.Refusals.{unless_refused}

abbrev Conditions : Type 0
Conditions = List (Bool × Refusal)

past : {A B : Type 0} (b : Bool) (e : Refusal) (r : Result A Refusal) (a : A) (s t : Result B Refusal) → cond b (Err e) r ≡ Ok a → (r ≡ Ok a → s ≡ t) → cond b (Err e) s ≡ t
past true e r a s t h rest = cc
past false e r a s t h rest = rest h

-- conditions of which none holds leave the rest to decide
pub unless_refused-append : {A B : Type 0} (cs ds : Conditions) (a d : A) (b : B) → unless_refused cs a ≡ Ok d → unless_refused (cs ++ ds) b ≡ unless_refused ds b
unless_refused-append [] ds a d b h = refl
unless_refused-append (c ∷ cs) ds a d b h = past c.0 c.1 (unless_refused cs a) d (unless_refused (cs ++ ds) b) (unless_refused ds b) h (unless_refused-append cs ds a d b)

still_refused : {A B : Type 0} (b : Bool) (e f : Refusal) (r : Result A Refusal) (s : Result B Refusal) → cond b (Err f) r ≡ Err e → (r ≡ Err e → s ≡ Err e) → cond b (Err f) s ≡ Err e
still_refused true e f r s h rest = cc
still_refused false e f r s h rest = rest h

-- a condition that holds is before all that follow
pub unless_refused-refused : {A B : Type 0} (cs ds : Conditions) (a : A) (b : B) (e : Refusal) → unless_refused cs a ≡ Err e → unless_refused (cs ++ ds) b ≡ Err e
unless_refused-refused [] ds a b e h = absurd cc
unless_refused-refused (c ∷ cs) ds a b e h = still_refused c.0 e c.1 (unless_refused cs a) (unless_refused (cs ++ ds) b) h (unless_refused-refused cs ds a b e)

here : {A : Type 0} (b : Bool) (e : Refusal) (r : Result A Refusal) (a d : A) → cond b (Err e) r ≡ Ok d → (r ≡ Ok d → a ≡ d) → a ≡ d
here true e r a d h rest = cc
here false e r a d h rest = rest h

-- what is not refused is the value itself
pub unless_refused-value : {A : Type 0} (cs : Conditions) (a d : A) → unless_refused cs a ≡ Ok d → a ≡ d
unless_refused-value [] a d h = cc
unless_refused-value (c ∷ cs) a d h = here c.0 c.1 (unless_refused cs a) a d h (unless_refused-value cs a d)

-- every refusal is `OutOfMemory`, or it isn't
pub memory_or_not : (e : Refusal) → (e ≡ OutOfMemory) ⊎ (e ≢ OutOfMemory)
memory_or_not NotJson = inr (λ same. cc)
memory_or_not TooDeep = inr (λ same. cc)
memory_or_not NotWhole = inr (λ same. cc)
memory_or_not BadResource = inr (λ same. cc)
memory_or_not BadName = inr (λ same. cc)
memory_or_not TooLong = inr (λ same. cc)
memory_or_not BadMessage = inr (λ same. cc)
memory_or_not OutOfMemory = inl refl
memory_or_not NotFound = inr (λ same. cc)
memory_or_not CounterSpent = inr (λ same. cc)
memory_or_not BadStamp = inr (λ same. cc)
memory_or_not NoStream = inr (λ same. cc)
memory_or_not WrongVariant = inr (λ same. cc)
memory_or_not NonceSpent = inr (λ same. cc)
memory_or_not EmptyFrame = inr (λ same. cc)
memory_or_not FrameTooLong = inr (λ same. cc)
memory_or_not UnknownKind = inr (λ same. cc)
memory_or_not Truncated = inr (λ same. cc)
memory_or_not Device = inr (λ same. cc)
memory_or_not JournalFull = inr (λ same. cc)
memory_or_not BadScript = inr (λ same. cc)
memory_or_not BadTrace = inr (λ same. cc)
memory_or_not Gap = inr (λ same. cc)
memory_or_not BadGroup = inr (λ same. cc)

-- what holds of a call that is refused as another was
pub err_is : {X : Type 0} (P : Result X Refusal → Type 0) (r : Result X Refusal) (e : Refusal) → IsErrAnd r (λ f. f ≡ e) → P (Err e) → P r
err_is P (Ok x) e failed holds = absurd failed
err_is P (Err f) e failed holds = subst (λ (x : Refusal). P (Err x)) (sym failed) holds

pub ok_same : {X : Type 0} (x y : X) → ◌≡◌ {A = Result X Refusal} (Ok x) (Ok y) → y ≡ x
ok_same x y is = cc

-- ---- what an answer is where one, two or three conditions come before it

pub unless_once : {A : Type 0} (a : Bool) (e : Refusal) (x y : A) → (if a then Err e else Ok x) ≡ Ok y → y ≡ x
unless_once true e x y is = absurd cc
unless_once false e x y is = cc

pub unless_twice : {A : Type 0} (a b : Bool) (e f : Refusal) (x y : A) → (if a then Err e else (if b then Err f else Ok x)) ≡ Ok y → y ≡ x
unless_twice true b e f x y is = absurd cc
unless_twice false b e f x y is = unless_once b f x y is

pub unless_thrice : {A : Type 0} (a b d : Bool) (e f g : Refusal) (x y : A) → (if a then Err e else (if b then Err f else (if d then Err g else Ok x))) ≡ Ok y → y ≡ x
unless_thrice true b d e f g x y is = absurd cc
unless_thrice false b d e f g x y is = unless_twice b d f g x y is
