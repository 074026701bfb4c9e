-- Lists of groups: how a text comes to its place, and that what was gathered is kept as it is.
use Rattle.std.proofs.Common.{◌≡◌, ℕ, suc, zero, ◌+◌, ◌≤◌, ◌<◌, ◌-◌, List, [], ◌∷◌, ◌++◌, map, length, T, take, drop, get_or, String, Bool, true, false, cond, not, ◌||◌, Option, Some, None, is_some, nat_lt, Result, Ok, Err, refl, subst, sym, ap, ◌∙◌, arith}
use Rattle.std.specs.declared.cmp.Ordering.TheVariants.{Less, Equal, Greater}
use Rattle.std.specs.List.{list_any, list_all}
use Rattle.std.specs.Str.{bytes_eq}
use Rattle.std.specs.Ordering.{eq_by_cmp, ordering_then}
use Rattle.std.specs.String.{string_bytes, string_cmp}
use Rattle.std.specs.Cmp.Lexicographic.{slice_cmp}
use Rattle.std.proofs.lemmas.List.{drop_more, length-drop, take-append-drop, map-append, nil_from_length}
use Rattle.std.proofs.lemmas.Bool.{lt-ltb, and_parts}
use Rattle.std.specs.FinMap as finmap
use Rattle.std.specs.FinMap.Entries.{by_order, put, is_sorted}
use Rattle.std.proofs.lemmas.Cmp.{nat_list_cmp_total}
use Rattle.std.proofs.lemmas.Map.Text.{is_eq-slice_cmp}
use Rattle.std.proofs.Math.Bool.{or_self_left}
use Rattle.xds_resource.specs.declared.refusal.Refusal.{Refusal}
use Rattle.xds_resource.specs.declared.refusal.Refusal.TheVariants.{BadGroup}
use Rattle.xds_resource.specs.Writes.{text_cmp, groups_cmp}
use Rattle.xds_resource.specs.Groups.{max_groups, is_group, grouped, placed, groups_of, IsGroups, has_group, Ascend}
use Rattle.xds_resource.proofs.WriteTies.{text_cmp-IsAntisymmetric}

abbrev Texts : Type 0
Texts = List (List ℕ)

keys-put : (t : List ℕ) (es : List (List ℕ × Unit {0})) → map (λ e. e.0) (put text_cmp t tt es) ≡ placed t (map (λ e. e.0) es)
keys-put t [] = refl
keys-put t (e ∷ es) =
    elim (text_cmp t e.0) as (λ o. map (λ e. e.0) (by_order o ((t, tt) ∷ e ∷ es) ((e.0, tt) ∷ es) (e ∷ put text_cmp t tt es)) ≡ by_order o (t ∷ e.0 ∷ map (λ e. e.0) es) (e.0 ∷ map (λ e. e.0) es) (e.0 ∷ placed t (map (λ e. e.0) es))) [
      | Less ↦ refl
      | Equal ↦ refl
      | Greater ↦ ap (λ ts. e.0 ∷ ts) (keys-put t es)
    ]

-- the texts as the keys of a map
abbrev keyed : Texts → finmap.FinMap text_cmp (Unit {0})
keyed [] = finmap.empty
keyed (t ∷ ts) = finmap.insert (keyed ts) t tt

keys-keyed : (ts : Texts) → finmap.keys (keyed ts) ≡ grouped ts
keys-keyed [] = ap (map (λ e. e.0)) (nil_from_length (finmap.entries (keyed [])) (sym (finmap.len-entries (keyed [])) ∙ finmap.len-empty text_cmp (Unit {0})))
keys-keyed (t ∷ ts) = ap (map (λ e. e.0)) (finmap.entries-insert nat_list_cmp_total (keyed ts) t tt) ∙ keys-put t (finmap.entries (keyed ts)) ∙ ap (placed t) (keys-keyed ts)

length-placed : (t : List ℕ) (ts : Texts) → length ts ≤ length (placed t ts)
length-placed t [] = omega arith
length-placed t (x ∷ ts) =
    elim (text_cmp t x) as (λ o. length (x ∷ ts) ≤ length (by_order o (t ∷ x ∷ ts) (x ∷ ts) (x ∷ placed t ts))) [
      | Less ↦ omega arith
      | Equal ↦ omega arith
      | Greater ↦ let rest = length-placed t ts in omega (arith, rest)
    ]

-- what is left of a list comes to no more groups than the list
pub fewer : {X : Type 0} (f : X → List ℕ) (n : ℕ) (xs : List X) → length (grouped (map f (drop n xs))) ≤ length (grouped (map f xs))
fewer f zero xs = omega arith
fewer f (suc n) [] = omega arith
fewer f (suc n) (x ∷ xs) =
    let rest = fewer f n xs in
    let here = length-placed (f x) (grouped (map f xs)) in
    omega (arith, rest, here)

length-map : {A B : Type 0} (f : A → B) (xs : List A) → length (map f xs) ≡ length xs
length-map f [] = refl
length-map f (x ∷ xs) = ap suc (length-map f xs)

length-keyed : (ts : Texts) → finmap.len (keyed ts) ≡ length (grouped ts)
length-keyed ts = finmap.len-entries (keyed ts) ∙ sym (length-map (λ e. e.0) (finmap.entries (keyed ts))) ∙ ap length (keys-keyed ts)

among-by_order : (ts : Texts) (q : List ℕ) → list_any (eq_by_cmp text_cmp q) ts ≡ has_group ts q
among-by_order [] q = refl
among-by_order (t ∷ ts) q = (λ i. is_eq-slice_cmp q t i || among-by_order ts q i)

or_swap : (a b c : Bool) → (a || (b || c)) ≡ (b || (a || c))
or_swap true true c = refl
or_swap true false c = refl
or_swap false b c = refl

has_group-placed : (t : List ℕ) (ts : Texts) (q : List ℕ) → has_group (placed t ts) q ≡ (bytes_eq q t || has_group ts q)
has_group-placed t [] q = refl
has_group-placed t (x ∷ ts) q =
    elim (text_cmp t x) as (λ o. text_cmp t x ≡ o → has_group (by_order o (t ∷ x ∷ ts) (x ∷ ts) (x ∷ placed t ts)) q ≡ (bytes_eq q t || (bytes_eq q x || has_group ts q))) [
      | Less ↦ λ is. refl
      | Equal ↦ λ is. sym (or_self_left (bytes_eq q x) (has_group ts q)) ∙ ap (λ y. bytes_eq q y || (bytes_eq q x || has_group ts q)) (sym (text_cmp-IsAntisymmetric t x is))
      | Greater ↦ λ is. ap (λ b. bytes_eq q x || b) (has_group-placed t ts q) ∙ or_swap (bytes_eq q x) (bytes_eq q t) (has_group ts q)
    ] refl

-- rule: groups
-- what is among the groups is what is among the texts
pub has_group-grouped : (ts : Texts) (q : List ℕ) → has_group (grouped ts) q ≡ has_group ts q
has_group-grouped [] q = refl
has_group-grouped (t ∷ ts) q = has_group-placed t (grouped ts) q ∙ ap (λ b. bytes_eq q t || b) (has_group-grouped ts q)

contains-keyed : (ts : Texts) (q : List ℕ) → finmap.contains_key (keyed ts) q ≡ has_group ts q
contains-keyed ts q = finmap.contains_key-keys (keyed ts) q ∙ ap (list_any (eq_by_cmp text_cmp q)) (keys-keyed ts) ∙ among-by_order (grouped ts) q ∙ has_group-grouped ts q

same_unit : (a b : Option (Unit {0})) → is_some a ≡ is_some b → a ≡ b
same_unit None None e = refl
same_unit None (Some y) e = absurd cc
same_unit (Some x) None e = absurd cc
same_unit (Some x) (Some y) e = refl

-- lists of the same texts come to the same groups, in whatever order and however often each stands there
pub grouped_same : (ts us : Texts) → ((q : List ℕ) → has_group ts q ≡ has_group us q) → grouped ts ≡ grouped us
grouped_same ts us same =
    sym (keys-keyed ts) ∙ ap finmap.keys (finmap.same_map nat_list_cmp_total text_cmp-IsAntisymmetric (keyed ts) (keyed us) (λ q. same_unit _ _ (contains-keyed ts q ∙ same q ∙ sym (contains-keyed us q)))) ∙ keys-keyed us

-- a text more is one group more, unless it is among those that were there
pub counted-more : (t : List ℕ) (ts : Texts) (b : Bool) → has_group ts t ≡ b → length (grouped (t ∷ ts)) ≡ cond b (length (grouped ts)) (length (grouped ts) + 1)
counted-more t ts b is =
    sym (length-keyed (t ∷ ts)) ∙ finmap.len-insert nat_list_cmp_total (keyed ts) t tt
    ∙ (λ i. cond ((contains-keyed ts t ∙ is) i) (length-keyed ts i) (length-keyed ts i + 1))

all-placed : (p : List ℕ → Bool) (t : List ℕ) (ts : Texts) → p t ≡ true → list_all p ts ≡ true → list_all p (placed t ts) ≡ true
all-placed p t [] here rest = rw here refl
all-placed p t (x ∷ ts) here rest =
    let parts = and_parts (p x) (list_all p ts) rest in
    elim (text_cmp t x) as (λ o. list_all p (by_order o (t ∷ x ∷ ts) (x ∷ ts) (x ∷ placed t ts)) ≡ true) [
      | Less ↦ rw here rest
      | Equal ↦ rest
      | Greater ↦ rw (parts.0) (all-placed p t ts here parts.1)
    ]

all-grouped : (p : List ℕ → Bool) (ts : Texts) → list_all p ts ≡ true → list_all p (grouped ts) ≡ true
all-grouped p [] all = refl
all-grouped p (t ∷ ts) all =
    let parts = and_parts (p t) (list_all p ts) all in
    all-placed p t (grouped ts) parts.0 (all-grouped p ts parts.1)

by_keys : (es : List (List ℕ × Unit {0})) → map (λ k. (k, tt {0})) (map (λ e. e.0) es) ≡ es
by_keys [] = refl
by_keys (e ∷ es) = ap (λ l. e ∷ l) (by_keys es)

-- rule: groups
pub grouped-ascend : (ts : Texts) → Ascend (grouped ts)
grouped-ascend ts = subst (λ es. T (is_sorted text_cmp es)) (sym (by_keys (finmap.entries (keyed ts))) ∙ ap (map (λ k. (k, tt {0}))) (keys-keyed ts)) (finmap.entries_sorted (keyed ts))

-- rule: groups
pub grouped-again : (ts : Texts) → grouped (grouped ts) ≡ grouped ts
grouped-again ts = grouped_same (grouped ts) ts (has_group-grouped ts)

abbrev pub Tests : Bool → Bool → Texts → Result Texts Refusal
Tests a b gs = cond (not a) (Err BadGroup) (cond b (Err BadGroup) (Ok gs))

tests_passed : (a b : Bool) (gs hs : Texts) → Tests a b gs ≡ Ok hs → (a ≡ true) × (b ≡ false)
tests_passed true true gs hs e = absurd cc
tests_passed true false gs hs e = (refl, refl)
tests_passed false b gs hs e = absurd cc

-- what texts were told by two tests
pub groups_of-tests : (ts : Texts) (a b : Bool) → list_all is_group ts ≡ a → nat_lt max_groups (length (grouped ts)) ≡ b → groups_of ts ≡ Tests a b (grouped ts)
groups_of-tests ts a b all few = λ i. Tests (all i) (few i) (grouped ts)

passed_value : (a b : Bool) (gs hs : Texts) → Tests a b gs ≡ Ok hs → gs ≡ hs
passed_value true true gs hs e = absurd cc
passed_value true false gs hs e = cc
passed_value false b gs hs e = absurd cc

-- groups as they are kept: each may be one, they are few enough, and gathering them again changes nothing
pub groups-parts : (gs hs : Texts) → groups_of gs ≡ Ok hs → (list_all is_group gs ≡ true) × (nat_lt max_groups (length (grouped gs)) ≡ false) × (grouped gs ≡ hs)
groups-parts gs hs e =
    let a = list_all is_group gs in
    let b = nat_lt max_groups (length (grouped gs)) in
    let parts = tests_passed a b (grouped gs) hs e in
    (parts.0, parts.1, passed_value a b (grouped gs) hs e)

-- what was gathered is kept as it is
pub kept : (ts gs : Texts) → groups_of ts ≡ Ok (grouped ts) → gs ≡ grouped ts → IsGroups gs
kept ts gs ok is =
    let parts = tests_passed (list_all is_group ts) (nat_lt max_groups (length (grouped ts))) (grouped ts) (grouped ts) ok in
    subst IsGroups (sym is) (groups_of-tests (grouped ts) true false (all-grouped is_group ts parts.0) (ap (λ hs. nat_lt max_groups (length hs)) (grouped-again ts) ∙ parts.1) ∙ ap Ok (grouped-again ts))

take_whole : {A : Type 0} (k : ℕ) (xs : List A) → k ≡ length xs → take k xs ≡ xs
take_whole zero [] e = refl
take_whole (suc k) [] e = refl
take_whole zero (x ∷ xs) e = absurd (omega (arith, e))
take_whole (suc k) (x ∷ xs) e = ap (λ l. x ∷ l) (take_whole k xs (omega (arith, e)))

module _ {Y : Type 0} where
  pub groups_cmp-strings : (xs ys : List (String Y)) → slice_cmp string_cmp xs ys ≡ groups_cmp (map string_bytes xs) (map string_bytes ys)
  groups_cmp-strings [] [] = refl
  groups_cmp-strings [] (y ∷ ys) = refl
  groups_cmp-strings (x ∷ xs) [] = refl
  groups_cmp-strings (x ∷ xs) (y ∷ ys) = ap (ordering_then (string_cmp x y)) (groups_cmp-strings xs ys)

  pub at_end : (xs : List (String Y)) → drop (length xs) xs ≡ []
  at_end [] = refl
  at_end (x ∷ xs) = at_end xs

  -- the texts from one on are that one and those behind it
  pub one_back : (xs : List (String Y)) (n : ℕ) (x : String Y) → 0 < n → n ≤ length xs → x ≡ get_or xs (n - 1) x → drop (n - 1) xs ≡ x ∷ drop n xs
  one_back xs n x some within is =
      let there : n - 1 < length xs = omega (arith, some, within) in
      let next : (n - 1) + 1 ≡ n = omega (arith, some) in
      drop_more xs (n - 1) x there ∙ (λ i. sym is i ∷ drop (next i) xs)

  pub gathered_back : (xs made made_then : List (String Y)) (n : ℕ) (x : String Y) → 0 < n → n ≤ length xs → x ≡ get_or xs (n - 1) x
      → map string_bytes made ≡ grouped (map string_bytes (drop n xs)) → map string_bytes made_then ≡ placed (string_bytes x) (map string_bytes made)
      → map string_bytes made_then ≡ grouped (map string_bytes (drop (n - 1) xs))
  gathered_back xs made made_then n x some within is so_far added =
      added ∙ ap (placed (string_bytes x)) so_far ∙ sym (ap (λ ys. grouped (map string_bytes ys)) (one_back xs n x some within is))

  -- how many groups there are with one text more
  pub counted_back : (xs : List (String Y)) (n : ℕ) (x : String Y) (b : Bool) → 0 < n → n ≤ length xs → x ≡ get_or xs (n - 1) x → has_group (map string_bytes (drop n xs)) (string_bytes x) ≡ b
      → length (grouped (map string_bytes (drop (n - 1) xs))) ≡ cond b (length (grouped (map string_bytes (drop n xs)))) (length (grouped (map string_bytes (drop n xs))) + 1)
  counted_back xs n x b some within is among =
      ap (λ ys. length (grouped (map string_bytes ys))) (one_back xs n x some within is) ∙ counted-more (string_bytes x) (map string_bytes (drop n xs)) b among

  -- the texts behind one, as a slice to the end has them
  behind : (xs : List (String Y)) (n : ℕ) → 0 < n → n ≤ length xs → take (length xs - ((n - 1) + 1)) (drop ((n - 1) + 1) xs) ≡ drop n xs
  behind xs n some within =
      let next : (n - 1) + 1 ≡ n = omega (arith, some) in
      let left : length xs - n ≡ length (drop n xs) = sym (length-drop n xs) in
      ap (λ m. take (length xs - m) (drop m xs)) next ∙ take_whole (length xs - n) (drop n xs) left

  -- what the count is after one text more was looked for behind its place
  pub counted_on : (xs : List (String Y)) (n count : ℕ) (x : String Y) (text : List ℕ) (b r : Bool) → 0 < n → n ≤ length xs → x ≡ get_or xs (n - 1) x → text ≡ string_bytes x
      → r ≡ has_group (map string_bytes (take (length xs - ((n - 1) + 1)) (drop ((n - 1) + 1) xs))) text → r ≡ b → count ≡ length (grouped (map string_bytes (drop n xs)))
      → cond b count (count + 1) ≡ length (grouped (map string_bytes (drop (n - 1) xs)))
  counted_on xs n count x text b r some within is named looked told counted =
      let among : has_group (map string_bytes (drop n xs)) (string_bytes x) ≡ b =
      sym (λ i. has_group (map string_bytes (behind xs n some within i)) (named i)) ∙ sym looked ∙ told in
      (λ i. cond b (counted i) (counted i + 1)) ∙ sym (counted_back xs n x b some within is among)

  -- a list of which a part comes to too many is too long itself
  pub too_many : (xs : List (String Y)) (n count : ℕ) → count ≡ max_groups → count + 1 ≡ length (grouped (map string_bytes (drop n xs))) → nat_lt max_groups (length (grouped (map string_bytes xs))) ≡ true
  too_many xs n count full more =
      let all = fewer string_bytes n xs in
      let above : max_groups < length (grouped (map string_bytes xs)) = omega (arith, all, full, more) in
      lt-ltb _ _ above

  -- a text that is there already is in its place
  pub found_at : (t : List ℕ) (xs : List (String Y)) (n : ℕ) (x : String Y) → n < length xs → x ≡ get_or xs n x → text_cmp t (string_bytes x) ≡ Equal
      → placed t (map string_bytes xs) ≡ map string_bytes (take n xs) ++ placed t (map string_bytes (drop n xs)) → map string_bytes xs ≡ placed t (map string_bytes xs)
  found_at t xs n x within is tie rest =
      let split : drop n xs ≡ x ∷ drop (n + 1) xs = drop_more xs n x within ∙ ap (λ y. y ∷ drop (n + 1) xs) (sym is) in
      let stays : placed t (map string_bytes (drop n xs)) ≡ map string_bytes (drop n xs) =
      ap (λ ys. placed t (map string_bytes ys)) split
      ∙ ap (λ o. by_order o (t ∷ string_bytes x ∷ map string_bytes (drop (n + 1) xs)) (string_bytes x ∷ map string_bytes (drop (n + 1) xs)) (string_bytes x ∷ placed t (map string_bytes (drop (n + 1) xs)))) tie
      ∙ sym (ap (map string_bytes) split) in
      sym (rest ∙ ap (λ ys. map string_bytes (take n xs) ++ ys) stays ∙ sym (map-append string_bytes (take n xs) (drop n xs)) ∙ ap (map string_bytes) (take-append-drop n xs))
