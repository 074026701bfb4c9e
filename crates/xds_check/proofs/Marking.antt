-- What marks say once they were put at names.
use Rattle.std.proofs.Common.{◌≡◌, ℕ, List, [], ◌∷◌, Bool, true, false, cond, Option, Some, None, refl, sym, ap, ◌∙◌}
use Rattle.std.specs.Prelude.{is_some, ◌&&◌, ◌||◌, bytes_eq}
use Rattle.std.specs.FinMap as finmap
use Rattle.std.specs.FinSet as set
use Rattle.xds_resource.specs.Writes.{text_cmp}
use Rattle.xds_resource.specs.Names.{put_each}
use Rattle.xds_resource.proofs.MadeMaps.{get-put_each}
use Rattle.xds_resource.proofs.NameMaps.{get-remove, bytes_eq_tells, bytes_eq_swap}
use Rattle.xds_interest.specs.Interests.{has_name}
use Rattle.xds_interest.proofs.Texts.{contains-from_texts}
use Rattle.xds_check.specs.Kept.{Marks, without_each}

there : (b : Bool) → is_some (cond b (Some true) None) ≡ b
there true = refl
there false = refl

-- names that were put in, one by one
pub marked_names : (ns : List (List ℕ)) (q : List ℕ) → is_some (finmap.get (put_each (λ _. Some true) finmap.empty ns) q) ≡ has_name ns q
marked_names ns q = ap is_some (get-put_each (λ _. Some true) finmap.empty ns q ∙ ap (λ o. cond (has_name ns q) (Some true) o) (finmap.get-empty text_cmp q)) ∙ there (has_name ns q)

pub marked_set : (m : Marks) (ns : List (List ℕ)) (s : set.FinSet text_cmp) → put_each (λ _. Some true) finmap.empty ns ≡ m → set.from_list ns ≡ s → (q : List ℕ) → is_some (finmap.get m q) ≡ set.contains s q
marked_set m ns s is same q =
    ap (λ x. is_some (finmap.get x q)) (sym is) ∙ marked_names ns q ∙ sym (contains-from_texts ns q) ∙ ap (λ x. set.contains x q) same

-- ---- names that were taken out

get-one : (b : Bool) (m : Marks) (n q : List ℕ) → finmap.get (cond b (finmap.remove m n) m) q ≡ cond (b && bytes_eq n q) None (finmap.get m q)
get-one true m n q = get-remove m n q
get-one false m n q = refl

without_step : (here later this that : Bool) (o : Option Bool) → (here ≡ true → this ≡ that) → cond (later && that) None (cond (this && here) None o) ≡ cond ((here || later) && that) None o
without_step true true this true o same = refl
without_step true true this false o same = ap (λ b. cond (b && true) None o) (same refl)
without_step true false this true o same = ap (λ b. cond (b && true) None o) (same refl)
without_step true false this false o same = ap (λ b. cond (b && true) None o) (same refl)
without_step false later true that o same = refl
without_step false later false that o same = refl

pub get-without_each : (f : List ℕ → Bool) (m : Marks) (ns : List (List ℕ)) (q : List ℕ) → finmap.get (without_each f m ns) q ≡ cond (has_name ns q && f q) None (finmap.get m q)
get-without_each f m [] q = refl
get-without_each f m (n ∷ ns) q =
    get-without_each f (cond (f n) (finmap.remove m n) m) ns q ∙ ap (λ o. cond (has_name ns q && f q) None o) (get-one (f n) m n q)
    ∙ without_step (bytes_eq n q) (has_name ns q) (f n) (f q) (finmap.get m q) (λ same. ap f (bytes_eq_tells n q same))
    ∙ ap (λ b. cond ((b || has_name ns q) && f q) None (finmap.get m q)) (bytes_eq_swap n q)
