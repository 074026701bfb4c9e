-- Segments that hold just the records from 1 up to some number, in order: looked at one after another.
use Rattle.std.proofs.Common.{◌≡◌, ◌≢◌, ◌⊎◌, inl, inr, ℕ, ◌+◌, ◌-◌, ◌<◌, ◌≤◌, List, [], ◌∷◌, ◌++◌, length, drop, get_or, nat_eq, Bool, true, false, refl, sym, ap, subst, ◌∙◌, ⊎_elim, arith, length-append}
use Rattle.std.specs.Prelude.{MatchBool}
use Rattle.std.proofs.lemmas.List.{drop_more}
use Rattle.std.proofs.lemmas.Bool.Decides.{eqb_tells}
use Rattle.xds_core.specs.Legal.{Record}
use Rattle.xds_node.specs.Entries.{numbered, Counted}
use Rattle.xds_node.proofs.Numbers.{length_numbered, counted_append, counted_rest, counted_numbered}
use Rattle.xds_node.specs.Pieces.{Piece, piece_entries, pieces_entries}

-- the entries are those of so many records, under the numbers from this one on
pub record AreNext (n left : ℕ) (entries : List (ℕ × Record)) : Type 0 where
  pub counted : Counted n entries
  pub many : length entries ≡ left

-- what is left of the segments decides: there are so many records to come, up to the last number
pub record Decides (last left : ℕ) (rest all : List Piece) : Type 0 where
  pub few : left ≤ last
  pub so : (n : ℕ) → n + left ≡ last + 1 → AreNext n left (pieces_entries rest) → AreNext 1 last (pieces_entries all)
  pub only : (n : ℕ) → n + left ≡ last + 1 → AreNext 1 last (pieces_entries all) → AreNext n left (pieces_entries rest)

-- rule: cuts
pub decides_start : (last : ℕ) (all : List Piece) → Decides last last all all
decides_start last all = record {
  few = omega arith;
  so = λ n number next. subst (λ m. AreNext m last (pieces_entries all)) (omega arith) next;
  only = λ n number whole. subst (λ m. AreNext m last (pieces_entries all)) (omega arith) whole;
}

counted_same : (n first : ℕ) (rs : List Record) → (length rs ≡ 0) ⊎ (first ≡ n) → Counted n (numbered first rs)
counted_same n first [] either = tt
counted_same n first (r ∷ rs) (inl none) = absurd (omega arith)
counted_same n first (r ∷ rs) (inr same) = subst (λ m. Counted m (numbered first (r ∷ rs))) same (counted_numbered first (r ∷ rs))

counted_first_is : (n first : ℕ) (rs : List Record) (es : List (ℕ × Record)) → length rs ≢ 0 → Counted n (numbered first rs ++ es) → first ≡ n
counted_first_is n first [] es some_of c = absurd (some_of refl)
counted_first_is n first (r ∷ rs) es some_of c = c.0

-- rule: cuts
-- the next segment has no more than are to come, and begins with the next where it has any
pub decides_next : (last left fewer : ℕ) (p : Piece) (rest all : List Piece) → Decides last left (p ∷ rest) all → fewer + length p.records ≡ left → (length p.records ≡ 0) ⊎ (p.first + left ≡ last + 1) → Decides last fewer rest all
decides_next last left fewer p rest all d many next =
    let few = d.few in
    record {
      few = omega arith;
      so = λ n number after.
          let more : 1 ≤ n = omega arith in
          let split = starts n (omega arith) in
          let k = split.0 in
          let here : (length p.records ≡ 0) ⊎ (p.first ≡ k) = ⊎_elim (λ (none : length p.records ≡ 0). inl none) (λ (first : p.first + left ≡ last + 1). inr (let at_k = split.1 in omega arith)) next in
          let len = length_numbered p.first p.records in
          let tail : Counted (k + length (piece_entries p)) (pieces_entries rest) = subst (λ m. Counted m (pieces_entries rest)) (let at_k = split.1 in omega arith) after.counted in
          let sum = length-append (piece_entries p) (pieces_entries rest) in
          let rest_many = after.many in
          d.so k (let at_k = split.1 in omega arith) (record {
            counted = counted_append k (piece_entries p) (pieces_entries rest) (counted_same k p.first p.records here) tail;
            many = omega arith;
          });
      only = λ n number whole.
          let split = starts n (omega arith) in
          let k = split.0 in
          let now = d.only k (let at_k = split.1 in omega arith) whole in
          let len = length_numbered p.first p.records in
          let sum = length-append (piece_entries p) (pieces_entries rest) in
          let now_many = now.many in
          record {
            counted = subst (λ m. Counted m (pieces_entries rest)) (let at_k = split.1 in omega arith) (counted_rest k (piece_entries p) (pieces_entries rest) now.counted);
            many = omega arith;
          };
    }
  where
    starts : (n : ℕ) → length p.records ≤ n → (k : ℕ) × (k + length p.records ≡ n)
    starts n le = (n - length p.records, omega arith)

-- rule: cuts
-- or it doesn't
pub decides_no : (last left : ℕ) (p : Piece) (rest all : List Piece) → Decides last left (p ∷ rest) all → (left < length p.records) ⊎ ((length p.records ≢ 0) × (p.first + left ≢ last + 1)) → Counted 1 (pieces_entries all) → length (pieces_entries all) ≡ last → ⊥
decides_no last left p rest all d wrong counted many =
    let few = d.few in
    let n : ℕ = last + 1 - left in
    let number : n + left ≡ last + 1 = omega arith in
    let now = d.only n number (record { counted = counted; many = many }) in
    let now_many = now.many in
    let len = length_numbered p.first p.records in
    let sum = length-append (piece_entries p) (pieces_entries rest) in
    ⊎_elim
    (λ (long : left < length p.records). absurd (omega arith))
    (λ (apart : (length p.records ≢ 0) × (p.first + left ≢ last + 1)).
    let first = counted_first_is n p.first p.records (pieces_entries rest) apart.0 now.counted in
    absurd (apart.1 (omega arith)))
    wrong

-- rule: cuts
-- at the end all have come
pub decides_end : (last left : ℕ) (rest all : List Piece) → Decides last left rest all → rest ≡ [] → MatchBool (nat_eq left 0) (Counted 1 (pieces_entries all) × (length (pieces_entries all) ≡ last)) (Counted 1 (pieces_entries all) → length (pieces_entries all) ≡ last → ⊥)
decides_end last left rest all d none = by_test (nat_eq left 0) (eqb_tells left 0)
  where
    Ends : Bool → Type 0
    Ends b = MatchBool b (Counted 1 (pieces_entries all) × (length (pieces_entries all) ≡ last)) (Counted 1 (pieces_entries all) → length (pieces_entries all) ≡ last → ⊥)

    by_test : (b : Bool) → ((b ≡ true) × (left ≡ 0)) ⊎ ((b ≡ false) × (left ≢ 0)) → Ends b
    by_test b (inl done) =
        let whole = d.so (last + 1) (let zero_left = done.1 in omega arith) (record { counted = subst (λ ps. Counted (last + 1) (pieces_entries ps)) (sym none) tt; many = ap (λ ps. length (pieces_entries ps)) none ∙ sym done.1 }) in
        subst Ends (sym done.0) (whole.counted, whole.many)
    by_test b (inr more) =
        subst Ends (sym more.0) (λ counted many.
        let few = d.few in
        let n : ℕ = last + 1 - left in
        let now = d.only n (omega arith) (record { counted = counted; many = many }) in
        let now_many : length (pieces_entries rest) ≡ left = now.many in
        let nothing : length (pieces_entries rest) ≡ 0 = ap (λ ps. length (pieces_entries ps)) none in
        absurd (more.1 (omega arith)))

-- the same of a loop over segments, at one of them, with its number of records and the number of its first

pub seen_next : (last left fewer i many first : ℕ) (p : Piece) (all : List Piece) → i < length all → p ≡ get_or all i p → many ≡ length p.records → first ≡ p.first → Decides last left (drop i all) all → (fewer + many ≡ left) × ((many ≡ 0) ⊎ (first + left ≡ last + 1)) → Decides last fewer (drop (i + 1) all) all
seen_next last left fewer i many first p all within is many_is first_is d next =
    let split : drop i all ≡ p ∷ drop (i + 1) all = drop_more all i p within ∙ ap (λ q. q ∷ drop (i + 1) all) (sym is) in
    let fits = next.0 in
    decides_next last left fewer p (drop (i + 1) all) all (subst (λ ps. Decides last left ps all) split d) (omega arith)
    (⊎_elim (λ (none : many ≡ 0). inl (omega arith)) (λ (follows : first + left ≡ last + 1). inr (omega arith)) next.1)

pub seen_wrong : (last left i many first : ℕ) (p : Piece) (all : List Piece) → i < length all → p ≡ get_or all i p → many ≡ length p.records → first ≡ p.first → Decides last left (drop i all) all → (left < many) ⊎ ((many ≢ 0) × (first + left ≢ last + 1)) → Counted 1 (pieces_entries all) → length (pieces_entries all) ≡ last → ⊥
seen_wrong last left i many first p all within is many_is first_is d wrong =
    let split : drop i all ≡ p ∷ drop (i + 1) all = drop_more all i p within ∙ ap (λ q. q ∷ drop (i + 1) all) (sym is) in
    decides_no last left p (drop (i + 1) all) all (subst (λ ps. Decides last left ps all) split d)
    (⊎_elim
    (λ (long : left < many). inl (omega arith))
    (λ (apart : (many ≢ 0) × (first + left ≢ last + 1)). inr ((λ none. apart.0 (omega arith)), (λ follows. apart.1 (omega arith))))
    wrong)
