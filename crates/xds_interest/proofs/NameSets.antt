-- Sets of names, the sorted sets of strings that stand for them, and the loops that change them.
use Rattle.std.proofs.Common.{◌≡◌, ℕ, ◌+◌, ◌<◌, ◌≤◌, List, [], ◌∷◌, map, take, length, get_or, Bool, true, false, cond, not, ◌&&◌, ◌||◌, refl, sym, ap, ◌∙◌, String, BTreeSet}
use Rattle.std.specs.List.{list_any, filter}
use Rattle.std.specs.Str.{bytes_eq}
use Rattle.std.specs.String.{string_bytes, string_cmp}
use Rattle.std.specs.Ordering.{nat_cmp}
use Rattle.std.specs.Cmp.Lexicographic.{slice_cmp}
use Rattle.std.specs.BTreeSet as sorted
use Rattle.std.specs.FinSet as set
use Rattle.std.proofs.lemmas.Cmp.{nat_list_cmp_total}
use Rattle.std.proofs.lemmas.Map.Text.{is_eq-slice_cmp, btree_set_updates_text}
use Rattle.std.proofs.lemmas.Map.Views.{any-filter_same}
use Rattle.std.proofs.lemmas.List.{take_all}
use Rattle.std.proofs.lemmas.List.Folds.{list_any_at}
use Rattle.std.proofs.Math.Bool.{and-true, or-false}
use Rattle.xds_resource.specs.declared.types.TypeName.{TypeName}
use Rattle.xds_resource.specs.Writes.{text_cmp}
use Rattle.xds_resource.proofs.NameMaps.{bytes_eq_tells, bytes_eq_swap}
use Rattle.xds_interest.specs.Interests.{is_star, has_name, names_among}
use Rattle.xds_interest.proofs.Texts.{contains-from_texts, same_texts, has_name-strings, has_name-inserted}
use Rattle.xds_interest.proofs.Listed.{or_swap, or_assoc, list_any-push, names_among-push_star, has_name-push_name, texts_more}

-- a list of strings has a text
pub has_name-map : {Y : Type 0} (ks : List (String Y)) (q : List ℕ) → has_name (map string_bytes ks) q ≡ list_any (λ k. bytes_eq q (string_bytes k)) ks
has_name-map [] q = refl
has_name-map (k ∷ ks) q = ap (λ b. bytes_eq q (string_bytes k) || b) (has_name-map ks q)

pub has_name-found : {Y : Type 0} (texts : List (String Y)) (n : ℕ) (x : String Y) (q : List ℕ) → n < length texts → x ≡ get_or texts n x → bytes_eq q (string_bytes x) ≡ true
    → has_name (map string_bytes texts) q ≡ true
has_name-found texts n x q within is same =
    has_name-map texts q ∙ list_any_at (λ k. bytes_eq q (string_bytes k)) texts n x within (ap (λ k. bytes_eq q (string_bytes k)) (sym is) ∙ same)

pub has_name-not_yet : {Y : Type 0} (texts : List (String Y)) (n : ℕ) (x : String Y) (q : List ℕ) → n < length texts → x ≡ get_or texts n x → bytes_eq q (string_bytes x) ≡ false
    → has_name (map string_bytes (take n texts)) q ≡ false → has_name (map string_bytes (take (n + 1) texts)) q ≡ false
has_name-not_yet texts n x q within is other before =
    ap (λ l. has_name l q) (texts_more texts n x within is) ∙ list_any-push (bytes_eq q) (map string_bytes (take n texts)) (string_bytes x) ∙ (λ i. before i || other i)

pub has_name-none : {Y : Type 0} (texts : List (String Y)) (n : ℕ) (q : List ℕ) → length texts ≤ n → has_name (map string_bytes (take n texts)) q ≡ false → has_name (map string_bytes texts) q ≡ false
has_name-none texts n q all none = ap (λ l. has_name (map string_bytes l) q) (sym (take_all n texts all)) ∙ none

-- ---- what a set has after a change

pub contains-insert : (s : set.FinSet text_cmp) (k q : List ℕ) → set.contains (set.insert s k) q ≡ (bytes_eq q k || set.contains s q)
contains-insert s k q = set.contains-insert nat_list_cmp_total s k q ∙ ap (λ b. b || set.contains s q) (is_eq-slice_cmp q k)

pub contains-remove : (s : set.FinSet text_cmp) (k q : List ℕ) → set.contains (set.remove s k) q ≡ (not (bytes_eq q k) && set.contains s q)
contains-remove s k q = set.contains-remove nat_list_cmp_total s k q ∙ ap (λ b. not b && set.contains s q) (is_eq-slice_cmp q k)

pub contains-union_list : (s : set.FinSet text_cmp) (xs : List (List ℕ)) (q : List ℕ) → set.contains (set.union s (set.from_list xs)) q ≡ (set.contains s q || has_name xs q)
contains-union_list s xs q = set.contains-union nat_list_cmp_total s (set.from_list xs) q ∙ ap (λ b. set.contains s q || b) (contains-from_texts xs q)

pub contains-difference_list : (s : set.FinSet text_cmp) (xs : List (List ℕ)) (q : List ℕ) → set.contains (set.difference s (set.from_list xs)) q ≡ (set.contains s q && not (has_name xs q))
contains-difference_list s xs q = set.contains-difference nat_list_cmp_total s (set.from_list xs) q ∙ ap (λ b. set.contains s q && not b) (contains-from_texts xs q)

pub union-empty : (s : set.FinSet text_cmp) → set.union set.empty s ≡ s
union-empty s = same_texts _ _ (λ q. set.contains-union nat_list_cmp_total set.empty s q ∙ ap (λ b. b || set.contains s q) (set.contains-empty text_cmp q))

-- ---- a sorted set of strings

-- a set as its keys show it
abbrev pub seen : {Y : Type 0} → BTreeSet (String Y) → set.FinSet text_cmp
seen s = set.from_list (map string_bytes s.keys)

pub contains-seen : {Y : Type 0} (s : BTreeSet (String Y)) (q : List ℕ) → set.contains (seen s) q ≡ sorted.contains_text s q
contains-seen s q = contains-from_texts _ q ∙ has_name-strings s.keys q

pub seen-inserted : {Y : Type 0} (s n : BTreeSet (String Y)) (k : String Y) (text : List ℕ) → string_bytes k ≡ text → sorted.Updates string_cmp s n k true → seen n ≡ set.insert (seen s) text
seen-inserted s n k text is u = same_texts _ _ (λ q.
    contains-from_texts _ q ∙ has_name-inserted s n k text is u q ∙ ap (λ b. bytes_eq q text || b) (sym (contains-from_texts _ q)) ∙ sym (contains-insert (seen s) text q))

cond_and : (b x : Bool) → cond b false x ≡ (not b && x)
cond_and true x = refl
cond_and false x = refl

pub seen-removed : {Y : Type 0} (s n : BTreeSet (String Y)) (k : List ℕ) → sorted.UpdatesBy string_cmp (λ x. slice_cmp nat_cmp k (string_bytes x)) s n false → seen n ≡ set.remove (seen s) k
seen-removed s n k u = same_texts _ _ (λ q.
    contains-seen n q ∙ btree_set_updates_text k s n false u q ∙ cond_and (bytes_eq k q) (sorted.contains_text s q)
    ∙ (λ i. not (bytes_eq_swap k q i) && sym (contains-seen s q) i) ∙ sym (contains-remove (seen s) k q))

-- ---- names that are put in one by one

-- the first texts of a list were put in, but for the star
pub record InsertedSoFar {Y : Type 0} (t : TypeName) (texts : List (String Y)) (n : ℕ) (old new : set.FinSet text_cmp) : Type 0 where
  pub has : (q : List ℕ) → set.contains new q ≡ (set.contains old q || has_name (names_among t (map string_bytes (take n texts))) q)

pub inserted_none : {Y : Type 0} (t : TypeName) (texts : List (String Y)) (s : set.FinSet text_cmp) → InsertedSoFar t texts 0 s s
inserted_none t texts s = record { has = λ q. sym (or-false (set.contains s q)) }

pub inserted_star : {Y : Type 0} (t : TypeName) (texts : List (String Y)) (n : ℕ) (old new : set.FinSet text_cmp) (x : String Y)
    → n < length texts → x ≡ get_or texts n x → is_star t (string_bytes x) ≡ true → InsertedSoFar t texts n old new → InsertedSoFar t texts (n + 1) old new
inserted_star t texts n old new x within is starry so_far = record {
  has = λ q. so_far.has q
      ∙ ap (λ l. set.contains old q || has_name l q) (sym (names_among-push_star t (map string_bytes (take n texts)) (string_bytes x) starry) ∙ ap (names_among t) (sym (texts_more texts n x within is)));
}

pub inserted_name : {Y : Type 0} (t : TypeName) (texts : List (String Y)) (n : ℕ) (old new next : set.FinSet text_cmp) (x : String Y)
    → n < length texts → x ≡ get_or texts n x → is_star t (string_bytes x) ≡ false → next ≡ set.insert new (string_bytes x) → InsertedSoFar t texts n old new
    → InsertedSoFar t texts (n + 1) old next
inserted_name t texts n old new next x within is plain put so_far =
    let first = map string_bytes (take n texts) in
    record {
      has = λ q.
          ap (λ s. set.contains s q) put ∙ contains-insert new (string_bytes x) q ∙ or_swap (bytes_eq q (string_bytes x)) (set.contains new q)
          ∙ ap (λ b. b || bytes_eq q (string_bytes x)) (so_far.has q) ∙ sym (or_assoc (set.contains old q) (has_name (names_among t first) q) (bytes_eq q (string_bytes x)))
          ∙ ap (λ b. set.contains old q || b) (sym (has_name-push_name t first (string_bytes x) q plain) ∙ ap (λ l. has_name (names_among t l) q) (sym (texts_more texts n x within is)));
    }

pub inserted_all : {Y : Type 0} (t : TypeName) (texts : List (String Y)) (n : ℕ) (old new : set.FinSet text_cmp) → length texts ≤ n → InsertedSoFar t texts n old new
    → new ≡ set.union old (set.from_list (names_among t (map string_bytes texts)))
inserted_all t texts n old new all so_far = same_texts _ _ (λ q.
    so_far.has q ∙ ap (λ l. set.contains old q || has_name (names_among t (map string_bytes l)) q) (take_all n texts all)
    ∙ sym (contains-union_list old (names_among t (map string_bytes texts)) q))

-- ---- names that are taken out one by one

take_out : (b o h : Bool) → (not b && (o && not h)) ≡ (o && not (h || b))
take_out true true true = refl
take_out true true false = refl
take_out true false h = refl
take_out false true true = refl
take_out false true false = refl
take_out false false h = refl

-- the first texts of a list were taken out
pub record RemovedSoFar {Y : Type 0} (texts : List (String Y)) (n : ℕ) (old new : set.FinSet text_cmp) : Type 0 where
  pub has : (q : List ℕ) → set.contains new q ≡ (set.contains old q && not (has_name (map string_bytes (take n texts)) q))

pub removed_none : {Y : Type 0} (texts : List (String Y)) (s : set.FinSet text_cmp) → RemovedSoFar texts 0 s s
removed_none texts s = record { has = λ q. sym (and-true (set.contains s q)) }

pub removed_one : {Y : Type 0} (texts : List (String Y)) (n : ℕ) (old new next : set.FinSet text_cmp) (x : String Y) → n < length texts → x ≡ get_or texts n x
    → next ≡ set.remove new (string_bytes x) → RemovedSoFar texts n old new → RemovedSoFar texts (n + 1) old next
removed_one texts n old new next x within is taken so_far =
    let first = map string_bytes (take n texts) in
    record {
      has = λ q.
          ap (λ s. set.contains s q) taken ∙ contains-remove new (string_bytes x) q ∙ ap (λ b. not (bytes_eq q (string_bytes x)) && b) (so_far.has q)
          ∙ take_out (bytes_eq q (string_bytes x)) (set.contains old q) (has_name first q)
          ∙ ap (λ b. set.contains old q && not b) (sym (list_any-push (bytes_eq q) first (string_bytes x)) ∙ ap (λ l. has_name l q) (sym (texts_more texts n x within is)));
    }

pub removed_all : {Y : Type 0} (texts : List (String Y)) (n : ℕ) (old new : set.FinSet text_cmp) → length texts ≤ n → RemovedSoFar texts n old new
    → new ≡ set.difference old (set.from_list (map string_bytes texts))
removed_all texts n old new all so_far = same_texts _ _ (λ q.
    so_far.has q ∙ ap (λ l. set.contains old q && not (has_name (map string_bytes l) q)) (take_all n texts all) ∙ sym (contains-difference_list old (map string_bytes texts) q))

-- ---- names of one set that another lacks

-- those of a list that a set lacks
abbrev lacked : set.FinSet text_cmp → List (List ℕ) → List (List ℕ)
lacked other xs = filter (λ x. not (set.contains other x)) xs

has_name-lacked : (other : set.FinSet text_cmp) (xs : List (List ℕ)) (q : List ℕ) → has_name (lacked other xs) q ≡ (not (set.contains other q) && has_name xs q)
has_name-lacked other xs q =
    any-filter_same (bytes_eq q) (λ x. not (set.contains other x)) (not (set.contains other q)) (λ x same. ap (λ y. not (set.contains other y)) (sym (bytes_eq_tells q x same))) xs

pub and_swap : (a b : Bool) → (a && b) ≡ (b && a)
and_swap true true = refl
and_swap true false = refl
and_swap false true = refl
and_swap false false = refl

-- what was put in, and what is left to look at, is what the difference adds
pub record DifferenceLeft {Y : Type 0} (other : set.FinSet text_cmp) (whole left : List (String Y)) (old new : set.FinSet text_cmp) : Type 0 where
  pub has : (q : List ℕ) → (set.contains new q || has_name (lacked other (map string_bytes left)) q) ≡ (set.contains old q || has_name (lacked other (map string_bytes whole)) q)

pub difference_start : {Y : Type 0} (other : set.FinSet text_cmp) (whole : List (String Y)) (s : set.FinSet text_cmp) → DifferenceLeft other whole whole s s
difference_start other whole s = record { has = λ q. refl }

pub difference_put : {Y : Type 0} (other : set.FinSet text_cmp) (whole left rest : List (String Y)) (old new next : set.FinSet text_cmp) (x : String Y)
    → left ≡ x ∷ rest → set.contains other (string_bytes x) ≡ false → next ≡ set.insert new (string_bytes x) → DifferenceLeft other whole left old new
    → DifferenceLeft other whole rest old next
difference_put other whole left rest old new next x is lacks put so_far =
    let after = lacked other (map string_bytes rest) in
    record {
      has = λ q.
          ap (λ b. b || has_name after q) (ap (λ s. set.contains s q) put ∙ contains-insert new (string_bytes x) q ∙ or_swap (bytes_eq q (string_bytes x)) (set.contains new q))
          ∙ sym (or_assoc (set.contains new q) (bytes_eq q (string_bytes x)) (has_name after q))
          ∙ ap (λ b. set.contains new q || has_name (cond (not b) (string_bytes x ∷ after) after) q) (sym lacks)
          ∙ ap (λ l. set.contains new q || has_name (lacked other (map string_bytes l)) q) (sym is) ∙ so_far.has q;
    }

pub difference_all : {Y : Type 0} (other from : set.FinSet text_cmp) (whole left : List (String Y)) (old new : set.FinSet text_cmp)
    → left ≡ [] → set.from_list (map string_bytes whole) ≡ from → DifferenceLeft other whole left old new → new ≡ set.union old (set.difference from other)
difference_all other from whole left old new none is so_far = same_texts _ _ (λ q.
    sym (ap (λ l. set.contains new q || has_name (lacked other (map string_bytes l)) q) none ∙ or-false (set.contains new q)) ∙ so_far.has q
    ∙ ap (λ b. set.contains old q || b)
    (has_name-lacked other (map string_bytes whole) q ∙ and_swap (not (set.contains other q)) (has_name (map string_bytes whole) q)
    ∙ ap (λ b. b && not (set.contains other q)) (sym (contains-from_texts (map string_bytes whole) q) ∙ ap (λ s. set.contains s q) is)
    ∙ sym (set.contains-difference nat_list_cmp_total from other q))
    ∙ sym (set.contains-union nat_list_cmp_total old (set.difference from other) q))
