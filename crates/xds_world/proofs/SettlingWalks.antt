-- What was done to settle a client of a type while no poll gave nothing, and what may be done after it.
use Rattle.std.proofs.Common.{◌≡◌, ℕ, List, [], ◌∷◌, ◌++◌, Bool, false, Option, Some, None, refl, sym, ap, subst, ◌∙◌}
use Rattle.xds_resource.specs.declared.types.TypeName.{TypeName}
use Rattle.xds_cache.specs.Faults.{Test}
use Rattle.xds_script.specs.Happenings.{Happening}
use Rattle.xds_world.specs.Worlds.{World, happens}
use Rattle.xds_world.specs.Settling.{link_in, next_to_settle, gave_nothing, Then, Done}

-- that these were done, one after the other, each as what is done next, that no poll among them gave nothing, and what they left
abbrev pub Walked : Test → ℕ → TypeName → World → List Happening → World → Type 0
Walked test c t w [] x = w ≡ x
Walked test c t w (h ∷ hs) x = (next_to_settle w c t ≡ Some h) × Then (happens test w h) (λ y. (gave_nothing t h (link_in y c) ≡ false) × Walked test c t y hs x)

-- ---- what holds of what is there

pub then_of : {S : Type 0} (o : Option S) (P Q : S → Type 0) → ((x : S) → o ≡ Some x → P x → Q x) → Then o P → Then o Q
then_of None P Q f holds = holds
then_of (Some x) P Q f holds = f x refl holds

pub then_at : {S : Type 0} (o : Option S) (x : S) (P : S → Type 0) → o ≡ Some x → P x → Then o P
then_at o x P is holds = subst (λ k. Then k P) (sym is) holds

pub then_there : {S : Type 0} (o : Option S) (P : S → Type 0) → Then o P → (x : S) × (o ≡ Some x) × P x
then_there None P holds = absurd holds
then_there (Some x) P holds = (x, refl, holds)

-- ---- what may be done after it

pub walked_then : (Ends : Bool → World → Type 0) (test : Test) (c : ℕ) (t : TypeName) (w : World) (hs : List Happening) (x : World) (ks : List Happening) → Walked test c t w hs x → Done Ends test c t false x ks → Done Ends test c t false w (hs ++ ks)
walked_then Ends test c t w [] x ks walked done = subst (λ y. Done Ends test c t false y ks) (sym walked) done
walked_then Ends test c t w (h ∷ hs) x ks walked done = (
  refl,
  (
    walked.0,
    then_of (happens test w h) (λ y. (gave_nothing t h (link_in y c) ≡ false) × Walked test c t y hs x) (λ y. Done Ends test c t (gave_nothing t h (link_in y c)) y (hs ++ ks))
        (λ y is more. subst (λ b. Done Ends test c t b y (hs ++ ks)) (sym more.0) (walked_then Ends test c t y hs x ks more.1 done)) walked.1,
  ),
)

-- one step more
pub walked_more : (test : Test) (c : ℕ) (t : TypeName) (w : World) (hs : List Happening) (x : World) (h : Happening) (y : World) → Walked test c t w hs x → next_to_settle x c t ≡ Some h → happens test x h ≡ Some y → gave_nothing t h (link_in y c) ≡ false
    → Walked test c t w (hs ++ h ∷ []) y
walked_more test c t w [] x h y walked next is gave =
    (ap (λ k. next_to_settle k c t) walked ∙ next, then_at (happens test w h) y (λ z. (gave_nothing t h (link_in z c) ≡ false) × (z ≡ y)) (ap (λ k. happens test k h) walked ∙ is) (gave, refl))
walked_more test c t w (g ∷ hs) x h y walked next is gave = (
  walked.0,
  then_of (happens test w g) (λ z. (gave_nothing t g (link_in z c) ≡ false) × Walked test c t z hs x) (λ z. (gave_nothing t g (link_in z c) ≡ false) × Walked test c t z (hs ++ h ∷ []) y)
      (λ z at_z more. (more.0, walked_more test c t z hs x h y more.1 next is gave)) walked.1,
)
