-- Names that are put in and taken out again, and the explicit names of an interest that is widened and narrowed.
use Rattle.std.proofs.Common.{◌≡◌, ℕ, ◌+◌, ◌<◌, ◌≤◌, List, [], ◌∷◌, map, take, length, get_or, Bool, true, false, not, ◌&&◌, ◌||◌, refl, sym, ap, ◌∙◌, String}
use Rattle.std.specs.Str.{bytes_eq}
use Rattle.std.specs.String.{string_bytes}
use Rattle.std.specs.FinSet as set
use Rattle.std.proofs.lemmas.Cmp.{nat_list_cmp_total}
use Rattle.std.proofs.lemmas.List.{take_all}
use Rattle.std.proofs.Math.Bool.{and-true, and-false, or-false}
use Rattle.std.proofs.lemmas.Bool.{true≢false, false≢true}
use Rattle.xds_resource.specs.declared.types.TypeName.{TypeName}
use Rattle.xds_resource.specs.Writes.{text_cmp}
use Rattle.xds_resource.proofs.NameMaps.{bytes_eq_tells}
use Rattle.xds_interest.specs.Interests.{Selection, has_name, names_among}
use Rattle.xds_interest.specs.Delta.{Mention}
use Rattle.xds_interest.specs.Asked.{Asked, names_after, delta_asked, widened, without_names}
use Rattle.xds_interest.specs.Laws.{WideningIsUndone, NarrowingIsTheRest}
use Rattle.xds_interest.proofs.Texts.{contains-from_texts, same_texts}
use Rattle.xds_interest.proofs.Listed.{or_swap, or_assoc, list_any-push, texts_more}
use Rattle.xds_interest.proofs.NameSets.{contains-insert, contains-remove}
use Rattle.xds_interest.proofs.Made.{names_after_made}

contains-union : (s n : set.FinSet text_cmp) (q : List ℕ) → set.contains (set.union s n) q ≡ (set.contains s q || set.contains n q)
contains-union s n q = set.contains-union nat_list_cmp_total s n q

contains-difference : (s n : set.FinSet text_cmp) (q : List ℕ) → set.contains (set.difference s n) q ≡ (set.contains s q && not (set.contains n q))
contains-difference s n q = set.contains-difference nat_list_cmp_total s n q

-- ---- names of another set, put in one by one

-- what was put in, and what is left to put in, is all of the other set; and nothing else was put in
pub record AddedSoFar {Y : Type 0} (whole left : List (String Y)) (old new : set.FinSet text_cmp) : Type 0 where
  pub has : (q : List ℕ) → (set.contains new q || has_name (map string_bytes left) q) ≡ (set.contains old q || has_name (map string_bytes whole) q)
  pub others : (q : List ℕ) → (set.contains new q && not (has_name (map string_bytes whole) q)) ≡ (set.contains old q && not (has_name (map string_bytes whole) q))

pub added_none : {Y : Type 0} (whole : List (String Y)) (s : set.FinSet text_cmp) → AddedSoFar whole whole s s
added_none whole s = record { has = λ q. refl; others = λ q. refl }

no_other : (b new left old whole : Bool) → (new || (b || left)) ≡ (old || whole) → (new && not whole) ≡ (old && not whole) → ((b || new) && not whole) ≡ (old && not whole)
no_other false new left old whole has others = others
no_other true new left true true has others = refl
no_other true new left false true has others = refl
no_other true new left true false has others = refl
no_other true true left false false has others = others
no_other true false left false false has others = absurd cc

pub added_one : {Y : Type 0} (whole left rest : List (String Y)) (old new next : set.FinSet text_cmp) (x : String Y) → left ≡ x ∷ rest → next ≡ set.insert new (string_bytes x)
    → AddedSoFar whole left old new → AddedSoFar whole rest old next
added_one whole left rest old new next x is put so_far =
    let before : (q : List ℕ) → (set.contains new q || (bytes_eq q (string_bytes x) || has_name (map string_bytes rest) q)) ≡ (set.contains old q || has_name (map string_bytes whole) q) =
    λ q. ap (λ l. set.contains new q || has_name (map string_bytes l) q) (sym is) ∙ so_far.has q in
    record {
      has = λ q.
          ap (λ s. set.contains s q || has_name (map string_bytes rest) q) put ∙ ap (λ b. b || has_name (map string_bytes rest) q) (contains-insert new (string_bytes x) q ∙ or_swap (bytes_eq q (string_bytes x)) (set.contains new q))
          ∙ sym (or_assoc (set.contains new q) (bytes_eq q (string_bytes x)) (has_name (map string_bytes rest) q)) ∙ before q;
      others = λ q.
          ap (λ s. set.contains s q && not (has_name (map string_bytes whole) q)) put ∙ ap (λ b. b && not (has_name (map string_bytes whole) q)) (contains-insert new (string_bytes x) q)
          ∙ no_other (bytes_eq q (string_bytes x)) (set.contains new q) (has_name (map string_bytes rest) q) (set.contains old q) (has_name (map string_bytes whole) q) (before q) (so_far.others q);
    }

pub added_all : {Y : Type 0} (from : set.FinSet text_cmp) (whole left : List (String Y)) (old new : set.FinSet text_cmp) → left ≡ [] → set.from_list (map string_bytes whole) ≡ from
    → AddedSoFar whole left old new → new ≡ set.union old from
added_all from whole left old new none is so_far = same_texts _ _ (λ q.
    sym (ap (λ l. set.contains new q || has_name (map string_bytes l) q) none ∙ or-false (set.contains new q)) ∙ so_far.has q
    ∙ ap (λ b. set.contains old q || b) (sym (contains-from_texts (map string_bytes whole) q) ∙ ap (λ s. set.contains s q) is) ∙ sym (contains-union old from q))

pub added_only : {Y : Type 0} (from : set.FinSet text_cmp) (whole left : List (String Y)) (old new : set.FinSet text_cmp) → set.from_list (map string_bytes whole) ≡ from
    → AddedSoFar whole left old new → set.difference new from ≡ set.difference old from
added_only from whole left old new is so_far =
    let named : (q : List ℕ) → has_name (map string_bytes whole) q ≡ set.contains from q = λ q. sym (contains-from_texts (map string_bytes whole) q) ∙ ap (λ s. set.contains s q) is in
    same_texts _ _ (λ q.
    contains-difference new from q ∙ ap (λ b. set.contains new q && not b) (sym (named q)) ∙ so_far.others q ∙ ap (λ b. set.contains old q && not b) (named q) ∙ sym (contains-difference old from q))

-- ---- names of another set, taken out one by one

take_first : (b new rest : Bool) → ((not b && new) && not rest) ≡ (new && not (b || rest))
take_first true true rest = refl
take_first true false rest = refl
take_first false true rest = refl
take_first false false rest = refl

-- without what is left to take out, what is there now is what was there without all of it
pub record TakenSoFar {Y : Type 0} (whole left : List (String Y)) (old new : set.FinSet text_cmp) : Type 0 where
  pub has : (q : List ℕ) → (set.contains new q && not (has_name (map string_bytes left) q)) ≡ (set.contains old q && not (has_name (map string_bytes whole) q))

pub taken_none : {Y : Type 0} (whole : List (String Y)) (s : set.FinSet text_cmp) → TakenSoFar whole whole s s
taken_none whole s = record { has = λ q. refl }

pub taken_one : {Y : Type 0} (whole left rest : List (String Y)) (old new next : set.FinSet text_cmp) (x : String Y) → left ≡ x ∷ rest → next ≡ set.remove new (string_bytes x)
    → TakenSoFar whole left old new → TakenSoFar whole rest old next
taken_one whole left rest old new next x is out so_far = record {
  has = λ q.
      ap (λ s. set.contains s q && not (has_name (map string_bytes rest) q)) out ∙ ap (λ b. b && not (has_name (map string_bytes rest) q)) (contains-remove new (string_bytes x) q)
      ∙ take_first (bytes_eq q (string_bytes x)) (set.contains new q) (has_name (map string_bytes rest) q)
      ∙ ap (λ l. set.contains new q && not (has_name (map string_bytes l) q)) (sym is) ∙ so_far.has q;
}

pub taken_all : {Y : Type 0} (from : set.FinSet text_cmp) (whole left : List (String Y)) (old new : set.FinSet text_cmp) → left ≡ [] → set.from_list (map string_bytes whole) ≡ from
    → TakenSoFar whole left old new → new ≡ set.difference old from
taken_all from whole left old new none is so_far = same_texts _ _ (λ q.
    sym (and-true (set.contains new q)) ∙ ap (λ l. set.contains new q && not (has_name (map string_bytes l) q)) (sym none) ∙ so_far.has q
    ∙ ap (λ b. set.contains old q && not b) (sym (contains-from_texts (map string_bytes whole) q) ∙ ap (λ s. set.contains s q) is) ∙ sym (contains-difference old from q))

-- ---- texts that a set lacks, taken out one by one

-- of the first texts of a list those were taken out that a set lacks
pub record RemovedBut {Y : Type 0} (kept : set.FinSet text_cmp) (texts : List (String Y)) (n : ℕ) (old new : set.FinSet text_cmp) : Type 0 where
  pub has : (q : List ℕ) → set.contains new q ≡ (set.contains old q && not (has_name (map string_bytes (take n texts)) q && not (set.contains kept q)))

pub removed_but_none : {Y : Type 0} (kept : set.FinSet text_cmp) (texts : List (String Y)) (s : set.FinSet text_cmp) → RemovedBut kept texts 0 s s
removed_but_none kept texts s = record { has = λ q. sym (and-true (set.contains s q)) }

still_kept : (b h k : Bool) → (b ≡ true → k ≡ true) → (h && not k) ≡ ((h || b) && not k)
still_kept false true k if_same = refl
still_kept false false k if_same = refl
still_kept true h true if_same = and-false h ∙ sym (and-false (h || true))
still_kept true h false if_same = absurd (false≢true (if_same refl))

one_less : (b o h k : Bool) → (b ≡ true → k ≡ false) → (not b && (o && not (h && not k))) ≡ (o && not ((h || b) && not k))
one_less false o true k if_same = refl
one_less false o false k if_same = refl
one_less true o true true if_same = absurd (true≢false (if_same refl))
one_less true o false true if_same = absurd (true≢false (if_same refl))
one_less true true true false if_same = refl
one_less true true false false if_same = refl
one_less true false h false if_same = refl

first_texts : {Y : Type 0} (texts : List (String Y)) (n : ℕ) (x : String Y) (q : List ℕ) → n < length texts → x ≡ get_or texts n x
    → has_name (map string_bytes (take (n + 1) texts)) q ≡ (has_name (map string_bytes (take n texts)) q || bytes_eq q (string_bytes x))
first_texts texts n x q within is = ap (λ l. has_name l q) (texts_more texts n x within is) ∙ list_any-push (bytes_eq q) (map string_bytes (take n texts)) (string_bytes x)

pub removed_but_kept : {Y : Type 0} (kept : set.FinSet text_cmp) (texts : List (String Y)) (n : ℕ) (old new : set.FinSet text_cmp) (x : String Y) → n < length texts → x ≡ get_or texts n x
    → set.contains kept (string_bytes x) ≡ true → RemovedBut kept texts n old new → RemovedBut kept texts (n + 1) old new
removed_but_kept kept texts n old new x within is has so_far = record {
  has = λ q. so_far.has q
      ∙ ap (λ b. set.contains old q && not b)
      (still_kept (bytes_eq q (string_bytes x)) (has_name (map string_bytes (take n texts)) q) (set.contains kept q) (λ same. ap (set.contains kept) (bytes_eq_tells q (string_bytes x) same) ∙ has)
      ∙ ap (λ b. b && not (set.contains kept q)) (sym (first_texts texts n x q within is)));
}

pub removed_but_one : {Y : Type 0} (kept : set.FinSet text_cmp) (texts : List (String Y)) (n : ℕ) (old new next : set.FinSet text_cmp) (x : String Y) → n < length texts → x ≡ get_or texts n x
    → set.contains kept (string_bytes x) ≡ false → next ≡ set.remove new (string_bytes x) → RemovedBut kept texts n old new → RemovedBut kept texts (n + 1) old next
removed_but_one kept texts n old new next x within is lacks out so_far = record {
  has = λ q.
      ap (λ s. set.contains s q) out ∙ contains-remove new (string_bytes x) q ∙ ap (λ b. not (bytes_eq q (string_bytes x)) && b) (so_far.has q)
      ∙ one_less (bytes_eq q (string_bytes x)) (set.contains old q) (has_name (map string_bytes (take n texts)) q) (set.contains kept q)
      (λ same. ap (set.contains kept) (bytes_eq_tells q (string_bytes x) same) ∙ lacks)
      ∙ ap (λ b. set.contains old q && not (b && not (set.contains kept q))) (sym (first_texts texts n x q within is));
}

pub removed_but_all : {Y : Type 0} (kept : set.FinSet text_cmp) (texts : List (String Y)) (n : ℕ) (old new : set.FinSet text_cmp) → length texts ≤ n → RemovedBut kept texts n old new
    → new ≡ set.difference old (set.difference (set.from_list (map string_bytes texts)) kept)
removed_but_all kept texts n old new all so_far = same_texts _ _ (λ q.
    so_far.has q
    ∙ ap (λ b. set.contains old q && not (b && not (set.contains kept q))) (ap (λ l. has_name (map string_bytes l) q) (take_all n texts all) ∙ sym (contains-from_texts (map string_bytes texts) q))
    ∙ ap (λ b. set.contains old q && not b) (sym (contains-difference (set.from_list (map string_bytes texts)) kept q))
    ∙ sym (contains-difference old (set.difference (set.from_list (map string_bytes texts)) kept) q))

-- ---- explicit names

or_rest : (n w : Bool) → (n || (w && not n)) ≡ (n || w)
or_rest true w = refl
or_rest false true = refl
or_rest false false = refl

-- with the names of another set that are not there, all names of the other set are there
pub union-rest : (s n : set.FinSet text_cmp) → set.union s (set.difference n s) ≡ set.union s n
union-rest s n = same_texts _ _ (λ q.
    contains-union s (set.difference n s) q ∙ ap (λ b. set.contains s q || b) (contains-difference n s q) ∙ or_rest (set.contains s q) (set.contains n q) ∙ sym (contains-union s n q))

none_of_rest : (n w : Bool) → (n && not (w && not n)) ≡ n
none_of_rest true true = refl
none_of_rest true false = refl
none_of_rest false w = refl

pub difference-rest : (s n : set.FinSet text_cmp) → set.difference s (set.difference n s) ≡ s
difference-rest s n = same_texts _ _ (λ q.
    contains-difference s (set.difference n s) q ∙ ap (λ b. set.contains s q && not b) (contains-difference n s q) ∙ none_of_rest (set.contains s q) (set.contains n q))

back : (n w : Bool) → ((n || w) && not (w && not n)) ≡ n
back true true = refl
back true false = refl
back false true = refl
back false false = refl

pub difference-union_rest : (s n : set.FinSet text_cmp) → set.difference (set.union s n) (set.difference n s) ≡ s
difference-union_rest s n = same_texts _ _ (λ q.
    contains-difference (set.union s n) (set.difference n s) q ∙ (λ i. contains-union s n q i && not (contains-difference n s q i)) ∙ back (set.contains s q) (set.contains n q))

added_or_left : (a s u : Bool) → ((a || s) && not (u && not s)) ≡ ((a && not u) || s)
added_or_left true true true = refl
added_or_left true true false = refl
added_or_left true false true = refl
added_or_left true false false = refl
added_or_left false true true = refl
added_or_left false true false = refl
added_or_left false false u = refl

-- the explicit names after a request, once those that it subscribes were added
pub narrowed_names : (t : TypeName) (m : Mention) (before : set.FinSet text_cmp)
    → set.difference (set.union before (set.from_list (names_among t m.subscribe))) (set.difference (set.from_list m.unsubscribe) (set.from_list (names_among t m.subscribe)))
    ≡ set.from_list (names_after t m (set.items before))
narrowed_names t m before =
    let s : set.FinSet text_cmp = set.from_list (names_among t m.subscribe) in
    let u : set.FinSet text_cmp = set.from_list m.unsubscribe in
    same_texts _ _ (λ q.
    contains-difference (set.union before s) (set.difference u s) q ∙ (λ i. contains-union before s q i && not (contains-difference u s q i))
    ∙ added_or_left (set.contains before q) (set.contains s q) (set.contains u q)
    ∙ ap (λ b. b || set.contains s q) (sym (contains-difference before u q)) ∙ sym (contains-union (set.difference before u) s q))
    ∙ names_after_made t m before

-- ---- what is kept of a stream's requests

-- as the code keeps it
abbrev kept_as : Bool → Selection → Asked
kept_as begun interest = record { begun = begun; named = false; interest = interest }

pub widened_by : (now : Asked) (begun : Bool) (held new : Selection) (wanted added : set.FinSet text_cmp) → kept_as begun held ≡ now → added ≡ set.difference wanted held.names
    → new ≡ record held { names = set.union held.names added } → kept_as begun new ≡ widened now wanted
widened_by now begun held new wanted added is rest put =
    ap (kept_as begun) (put ∙ (λ i. record held { names = (ap (set.union held.names) rest ∙ union-rest held.names wanted) i })) ∙ ap (λ a. widened a wanted) is

pub taken_out : (now : Asked) (begun : Bool) (held new : Selection) (out : set.FinSet text_cmp) → kept_as begun held ≡ now → new ≡ record held { names = set.difference held.names out }
    → kept_as begun new ≡ without_names now out
taken_out now begun held new out is took = ap (kept_as begun) took ∙ ap (λ a. without_names a out) is

-- rule: delta-names
pub widening_is_undone : WideningIsUndone
widening_is_undone before names =
    (λ i. record { begun = before.begun; named = before.named; interest = record before.interest { names = difference-union_rest before.interest.names names i } })

-- rule: delta-names
pub narrowing_is_the_rest : NarrowingIsTheRest
narrowing_is_the_rest t before m = (λ i. record {
  begun = true;
  named = false;
  interest = record { star = (delta_asked t before m).interest.star; names = narrowed_names t m before.interest.names i; cluster = before.interest.cluster };
})
