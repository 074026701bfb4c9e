-- The names of a list as a map that copies share and a few that were put since, name by name.
use Rattle.std.proofs.Common.{◌≡◌, ℕ, List, [], ◌∷◌, Bool, true, false, cond, ◌&&◌, ◌||◌, not, Option, Some, None, refl, sym, ap, ◌∙◌}
use Rattle.std.specs.Prelude.{bytes_eq, is_some, if◌then◌else◌}
use Rattle.std.specs.List.{list_any, list_all}
use Rattle.std.specs.Option.{option_or, option_and_then}
use Rattle.std.specs.FinMap as finmap
use Rattle.std.proofs.lemmas.Bool.{true≢false}
use Rattle.xds_resource.specs.Writes.{text_cmp}
use Rattle.xds_resource.specs.Names.{put_all}
use Rattle.xds_resource.proofs.NameMaps.{has_text, has_text-keys, same_names, get-insert, bytes_eq_same}
use Rattle.xds_resource.proofs.MadeMaps.{get-put_all}
use Rattle.xds_catalogue.specs.Holdings.{Latest}
use Rattle.xds_ledger.specs.Sharing.{base_names, over}
use Rattle.xds_ledger.proofs.Overlaying.{no_entries}
use Rattle.xds_ledger.proofs.SomethingOwed.{by_names, named_fails}
use Rattle.xds_ledger.proofs.Fitting.{number_again}

pub get-over : (base : Option Latest) (added : Latest) (q : List ℕ) → finmap.get (over base added) q ≡ option_or (finmap.get added q) (finmap.get (base_names base) q)
get-over base added q =
    get-put_all (λ name number. Some number) (base_names base) added q ∙ ap (λ o. option_or o (finmap.get (base_names base) q)) (number_again (finmap.get added q))

-- where none was put since, they are those that are shared
pub over_empty : (base : Option Latest) → over base finmap.empty ≡ base_names base
over_empty base =
    same_names _ _ (λ q. get-over base finmap.empty q ∙ ap (λ o. option_or o (finmap.get (base_names base) q)) (finmap.get-empty text_cmp q))

pub over_none : (base : Option Latest) (added names : Latest) → base_names base ≡ names → added ≡ finmap.empty → over base added ≡ names
over_none base added names is none = ap (over base) none ∙ over_empty base ∙ is

-- one name more
pub over_put : (base : Option Latest) (added : Latest) (n : List ℕ) (k : ℕ) → over base (finmap.insert added n k) ≡ finmap.insert (over base added) n k
over_put base added n k =
    same_names _ _ (λ q. get-over base (finmap.insert added n k) q ∙ ap (λ o. option_or o (finmap.get (base_names base) q)) (get-insert added n k q)
    ∙ step (bytes_eq n q) (finmap.get added q) (finmap.get (base_names base) q) ∙ ap (cond (bytes_eq n q) (Some k)) (sym (get-over base added q))
    ∙ sym (get-insert (over base added) n k q))
  where
    step : (here : Bool) (o p : Option ℕ) → option_or (cond here (Some k) o) p ≡ cond here (Some k) (option_or o p)
    step true o p = refl
    step false o p = refl

-- ---- maps that are made of them

-- of no name nothing is made
pub none_put : {Y : Type 0} (f : List ℕ → ℕ → Option Y) (m : finmap.FinMap text_cmp Y) → put_all f m (finmap.entries {R = text_cmp} finmap.empty) ≡ m
none_put f m =
    same_names _ _ (λ q. get-put_all f m finmap.empty q ∙ ap (λ o. option_or (option_and_then (f q) o) (finmap.get m q)) (finmap.get-empty text_cmp q))

first_stays : {Y : Type 0} (u v old : Option Y) → is_some u ≡ is_some v → option_or u (option_or v old) ≡ option_or u old
first_stays (Some u) v old is = refl
first_stays None None old is = refl
first_stays None (Some v) old is = absurd (true≢false (sym is))

put_both : {Y : Type 0} (f : ℕ → Option Y) (o p : Option ℕ) (old : Option Y) → ((x y : ℕ) → is_some (f x) ≡ is_some (f y))
    → option_or (option_and_then f o) (option_or (option_and_then f p) old) ≡ option_or (option_and_then f (option_or o p)) old
put_both f None p old alike = refl
put_both f (Some x) None old alike = refl
put_both f (Some x) (Some y) old alike = first_stays (f x) (f y) old (alike x y)

-- what is made of the shared names, and then of the others, where it is the name that decides whether something is
pub put_over : {Y : Type 0} (f : List ℕ → ℕ → Option Y) (m : finmap.FinMap text_cmp Y) (base : Option Latest) (added : Latest) → ((q : List ℕ) (x y : ℕ) → is_some (f q x) ≡ is_some (f q y))
    → put_all f (put_all f m (finmap.entries (base_names base))) (finmap.entries added) ≡ put_all f m (finmap.entries (over base added))
put_over f m base added alike =
    same_names _ _ (λ q. get-put_all f (put_all f m (finmap.entries (base_names base))) added q
    ∙ ap (option_or (option_and_then (f q) (finmap.get added q))) (get-put_all f m (base_names base) q)
    ∙ put_both (f q) (finmap.get added q) (finmap.get (base_names base) q) (finmap.get m q) (alike q)
    ∙ ap (λ o. option_or (option_and_then (f q) o) (finmap.get m q)) (sym (get-over base added q))
    ∙ sym (get-put_all f m (over base added) q))

put_turned : {Y : Type 0} (u : Option Y) (o p : Option ℕ) (old : Option Y)
    → option_or (option_and_then (λ k. u) p) (option_or (option_and_then (λ k. u) o) old) ≡ option_or (option_and_then (λ k. u) (option_or o p)) old
put_turned u None None old = refl
put_turned u None (Some y) old = refl
put_turned u (Some x) None old = refl
put_turned None (Some x) (Some y) old = refl
put_turned (Some u) (Some x) (Some y) old = refl

-- and the other way round, where the number says nothing
pub put_under : {Y : Type 0} (f : List ℕ → Option Y) (m : finmap.FinMap text_cmp Y) (base : Option Latest) (added : Latest)
    → put_all (λ name number. f name) (put_all (λ name number. f name) m (finmap.entries added)) (finmap.entries (base_names base)) ≡ put_all (λ name number. f name) m (finmap.entries (over base added))
put_under f m base added =
    same_names _ _ (λ q. get-put_all (λ name number. f name) (put_all (λ name number. f name) m (finmap.entries added)) (base_names base) q
    ∙ ap (option_or (option_and_then (λ number. f q) (finmap.get (base_names base) q))) (get-put_all (λ name number. f name) m added q)
    ∙ put_turned (f q) (finmap.get added q) (finmap.get (base_names base) q) (finmap.get m q)
    ∙ ap (λ o. option_or (option_and_then (λ number. f q) o) (finmap.get m q)) (sym (get-over base added q))
    ∙ sym (get-put_all (λ name number. f name) m (over base added) q))

-- ---- tests of them

passing_at : (p : List ℕ → Bool) (n : List ℕ) (ns : List (List ℕ)) (b : Bool) → p n ≡ b → (list_any p ns ≡ true → (q : List ℕ) × (has_text ns q ≡ true) × (p q ≡ true)) → (b || list_any p ns) ≡ true
    → (q : List ℕ) × (has_text (n ∷ ns) q ≡ true) × (p q ≡ true)
passing_at p n ns true here later some = (n, ap (λ b. b || has_text ns n) (bytes_eq_same n), here)
passing_at p n ns false here later some = let one = later some in (one.0, among (bytes_eq one.0 n) (has_text ns one.0) one.1, one.2)
  where
    among : (a b : Bool) → b ≡ true → (a || b) ≡ true
    among true b is = refl
    among false b is = is

passing : (p : List ℕ → Bool) (ns : List (List ℕ)) → list_any p ns ≡ true → (q : List ℕ) × (has_text ns q ≡ true) × (p q ≡ true)
passing p [] some = absurd cc
passing p (n ∷ ns) some = passing_at p n ns (p n) refl (passing p ns) some

abbrev pub any_of : (List ℕ → Bool) → Latest → Bool
any_of p m = list_any (λ e. p e.0) (finmap.entries m)

-- a name of the map that passes
passing_name : (p : List ℕ → Bool) (m : Latest) → any_of p m ≡ true → (q : List ℕ) × (is_some (finmap.get m q) ≡ true) × (p q ≡ true)
passing_name p m some =
    let one = passing p (finmap.keys m) (sym (by_names p (finmap.entries m)) ∙ some) in
    (one.0, sym (has_text-keys m one.0) ∙ one.1, one.2)

passes_if : (p : List ℕ → Bool) (m : Latest) (q : List ℕ) (b : Bool) → any_of p m ≡ b → is_some (finmap.get m q) ≡ true → p q ≡ true → b ≡ true
passes_if p m q true is there passes = refl
passes_if p m q false is there passes = absurd (true≢false (sym passes ∙ named_fails p m q is there))

-- where all names of one map are in another, and one of the first passes, one of the other does
more_pass : (p : List ℕ → Bool) (m n : Latest) → ((q : List ℕ) → is_some (finmap.get m q) ≡ true → is_some (finmap.get n q) ≡ true) → any_of p m ≡ true → any_of p n ≡ true
more_pass p m n more some = let one = passing_name p m some in passes_if p n one.0 (any_of p n) refl (more one.0 one.1) one.2

in_first : (o p : Option ℕ) → is_some o ≡ true → is_some (option_or o p) ≡ true
in_first None p there = absurd cc
in_first (Some x) p there = refl

in_second : (o p : Option ℕ) → is_some p ≡ true → is_some (option_or o p) ≡ true
in_second None p there = there
in_second (Some x) p there = refl

either_passes : (o p : Option ℕ) (a b : Bool) → is_some (option_or o p) ≡ true → (is_some o ≡ true → a ≡ true) → (is_some p ≡ true → b ≡ true) → (a || b) ≡ true
either_passes (Some x) p a b there first second = ap (λ c. c || b) (first refl)
either_passes None p true b there first second = refl
either_passes None p false b there first second = second there

alike : (a b c : Bool) → (a ≡ true → c ≡ true) → (b ≡ true → c ≡ true) → (c ≡ true → (a || b) ≡ true) → (a || b) ≡ c
alike true b c first second both = sym (first refl)
alike false true c first second both = sym (second refl)
alike false false false first second both = refl
alike false false true first second both = both refl

-- whether one of both passes
pub any_over : (p : List ℕ → Bool) (base : Option Latest) (added : Latest) → (any_of p added || any_of p (base_names base)) ≡ any_of p (over base added)
any_over p base added =
    alike (any_of p added) (any_of p (base_names base)) (any_of p (over base added))
    (more_pass p added (over base added) (λ q there. ap is_some (get-over base added q) ∙ in_first (finmap.get added q) (finmap.get (base_names base) q) there))
    (more_pass p (base_names base) (over base added) (λ q there. ap is_some (get-over base added q) ∙ in_second (finmap.get added q) (finmap.get (base_names base) q) there))
    (λ some.
    let one = passing_name p (over base added) some in
    either_passes (finmap.get added one.0) (finmap.get (base_names base) one.0) (any_of p added) (any_of p (base_names base)) (sym (ap is_some (get-over base added one.0)) ∙ one.1)
    (λ there. passes_if p added one.0 (any_of p added) refl there one.2) (λ there. passes_if p (base_names base) one.0 (any_of p (base_names base)) refl there one.2))

abbrev pub all_of : (List ℕ → Bool) → Latest → Bool
all_of p m = list_all (λ e. p e.0) (finmap.entries m)

all_by_any : (p : List ℕ → Bool) (es : List (List ℕ × ℕ)) → list_all (λ e. p e.0) es ≡ not (list_any (λ e. not (p e.0)) es)
all_by_any p [] = refl
all_by_any p (e ∷ es) = ap (λ b. p e.0 && b) (all_by_any p es) ∙ turned (p e.0) (list_any (λ e. not (p e.0)) es)
  where
    turned : (a b : Bool) → (a && not b) ≡ not (not a || b)
    turned true b = refl
    turned false b = refl

-- whether all of both do
pub all_over : (p : List ℕ → Bool) (base : Option Latest) (added : Latest) → (all_of p added && all_of p (base_names base)) ≡ all_of p (over base added)
all_over p base added =
    (λ i. all_by_any p (finmap.entries added) i && all_by_any p (finmap.entries (base_names base)) i)
    ∙ neither (any_of (λ q. not (p q)) added) (any_of (λ q. not (p q)) (base_names base)) ∙ ap not (any_over (λ q. not (p q)) base added)
    ∙ sym (all_by_any p (finmap.entries (over base added)))
  where
    neither : (a b : Bool) → (not a && not b) ≡ not (a || b)
    neither true b = refl
    neither false b = refl

none_any : (p : List ℕ → Bool) (b : Bool) → any_of p finmap.empty ≡ b → b ≡ false
none_any p false is = refl
none_any p true is = let one = passing_name p finmap.empty is in absurd (true≢false (sym one.1 ∙ ap is_some (finmap.get-empty text_cmp one.0)))

-- ---- as their readers find them

-- whether one passes, from what was put since and from what is shared
module _ (p : List ℕ → Bool) (base : Option Latest) (added names : Latest) (is : over base added ≡ names) where
  pub one_since : any_of p added ≡ true → true ≡ any_of p names
  one_since here = sym (ap (λ b. b || any_of p (base_names base)) here) ∙ any_over p base added ∙ ap (any_of p) is

  pub one_shared : any_of p added ≡ false → any_of p (base_names base) ≡ any_of p names
  one_shared none = sym (ap (λ b. b || any_of p (base_names base)) none) ∙ any_over p base added ∙ ap (any_of p) is

  pub none_since : base ≡ None → any_of p added ≡ false → false ≡ any_of p names
  none_since unshared none = sym (none_any p (any_of p finmap.empty) refl) ∙ ap (λ b. any_of p (base_names b)) (sym unshared) ∙ one_shared none

  pub not_since : all_of p added ≡ false → false ≡ all_of p names
  not_since here = sym (ap (λ b. b && all_of p (base_names base)) here) ∙ all_over p base added ∙ ap (all_of p) is

  pub all_shared : all_of p added ≡ true → all_of p (base_names base) ≡ all_of p names
  all_shared every = sym (ap (λ b. b && all_of p (base_names base)) every) ∙ all_over p base added ∙ ap (all_of p) is

  pub all_since : base ≡ None → all_of p added ≡ true → true ≡ all_of p names
  all_since unshared every =
      ap not (sym (none_any (λ q. not (p q)) (any_of (λ q. not (p q)) finmap.empty) refl)) ∙ sym (all_by_any p (finmap.entries finmap.empty)) ∙ ap (λ b. all_of p (base_names b)) (sym unshared) ∙ all_shared every

-- ---- small facts

-- a condition decides whether there is something, and not what there is
pub alike_if : (holds : Bool) (x y : ℕ) → is_some (if holds then Some x else None) ≡ is_some (if holds then Some y else None)
alike_if true x y = refl
alike_if false x y = refl

-- whether there is a name
pub none_there : (m : Latest) → list_any (λ e. true) (finmap.entries m) ≡ false → finmap.empty ≡ m
none_there m none = sym (no_entries m (at (finmap.entries m) none))
  where
    at : (es : List (List ℕ × ℕ)) → list_any (λ e. true) es ≡ false → es ≡ []
    at [] none = refl
    at (e ∷ es) none = absurd (true≢false none)
