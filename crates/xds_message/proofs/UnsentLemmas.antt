-- What is left to be written of a frame: fronts of it, and places in stored texts.
use Rattle.std.proofs.Common.{◌≡◌, ◌<◌, ◌≤◌, ◌+◌, ◌-◌, ℕ, zero, suc, List, [], ◌∷◌, ◌++◌, Bool, true, false, map, length, take, drop, refl, ap, sym, ◌∙◌, subst, append_assoc, arith, length-append, length-drop, drop-drop, take-take}
use Rattle.std.specs.Bool.{◌==◌}
use Rattle.std.proofs.lemmas.Bool.{false≢true}
use Rattle.std.proofs.lemmas.List.{drop-append-le, take-append-drop}
use Rattle.std.proofs.Math.Seq.{drop-append-add}
use Rattle.xds_message.specs.declared.filling.TextPlace.{TextPlace}
use Rattle.xds_message.specs.Joined.{behind_commas}
use Rattle.xds_message.specs.Pieces.{comma_before}
use Rattle.xds_message.specs.Unsent.{FitsNext, IsFrontOf, IsPlaceIn, left_at, texts_behind}

-- ---- fronts

behind_first : (n : ℕ) (first second : List ℕ) → length first ≤ n → drop n (first ++ second) ≡ drop (n - length first) second
behind_first n first second h =
    let all : length first + (n - length first) ≡ n = omega (arith, h) in
    sym (ap (λ (k : ℕ). drop k (first ++ second)) all) ∙ drop-append-add first second (n - length first)

-- what comes first of the second of two
front_second : (n : ℕ) (first second result : List ℕ) → length first ≤ n → IsFrontOf result (drop (n - length first) second) → IsFrontOf result (drop n (first ++ second))
front_second n first second result h f = subst (IsFrontOf result) (sym (behind_first n first second h)) f

-- what comes first of three pieces, behind the first
pub front_pieces : (n : ℕ) (head body tail h b t result : List ℕ) → h ≡ head → b ≡ body → t ≡ tail → length h ≤ n → IsFrontOf result (drop (n - length h) (b ++ t)) → IsFrontOf result (drop n (head ++ (body ++ tail)))
front_pieces n head body tail h b t result is_head is_body is_tail le f =
    subst (λ (l : List ℕ). IsFrontOf result (drop n l)) (λ i. is_head i ++ (is_body i ++ is_tail i)) (front_second n h (b ++ t) result le f)

pub positive : (n : ℕ) (l : List ℕ) → (n ≤ 0 → length l ≤ 0) → false ≡ (length l == 0) → 0 < n
positive (suc n) l h e = omega arith
positive zero [] h e = absurd (false≢true e)
positive zero (x ∷ l) h e = absurd (omega (arith, h (omega arith)))

-- some of what comes first is put behind what a block holds
pub put_behind : (old new front whole : List ℕ) (offset count : ℕ) → IsFrontOf front (drop offset whole) → count ≤ length front → new ≡ old ++ take count front
    → new ++ drop (offset + count) whole ≡ old ++ drop offset whole
put_behind old new front whole offset count f fits is =
    let rest = drop offset whole in
    let taken : take count front ≡ take count rest = ap (take count) (sym f.front) ∙ take-take count (length front) rest fits in
    ap (λ (l : List ℕ). l ++ drop (offset + count) whole) (is ∙ ap (λ (l : List ℕ). old ++ l) taken)
    ∙ append_assoc old (take count rest) (drop (offset + count) whole)
    ∙ ap (λ (l : List ℕ). old ++ (take count rest ++ l)) (sym (drop-drop count offset whole))
    ∙ ap (λ (l : List ℕ). old ++ l) (take-append-drop count rest)

-- what stands between two texts is no longer than the whole
pub middle_fits : (head middle tail whole : List ℕ) (n : ℕ) → head ++ (middle ++ tail) ≡ whole → length whole ≤ n → length middle ≤ n
middle_fits head middle tail whole n is fits =
    omega (arith, fits, ap (λ (l : List ℕ). length l) is, length-append head (middle ++ tail), length-append middle tail)

-- ---- places in stored texts

behind_next : (later : Bool) (text : List ℕ) (texts : List (List ℕ)) → texts_behind later (text ∷ texts) ≡ (comma_before later ++ text) ++ behind_commas texts
behind_next false text texts = refl
behind_next true text texts = refl

module _ {A : Type 0} (text : A → List ℕ) (items : List A) (later : Bool) (next offset : ℕ) where
  abbrev here : TextPlace
  here = record { later = later; next = next; offset = offset }

  -- what is left is the rest of the next text, and those behind it
  left_here : (item : A) → drop next items ≡ item ∷ drop (next + 1) items → offset ≤ length (comma_before later ++ text item)
      → left_at text items here ≡ drop offset (comma_before later ++ text item) ++ behind_commas (map text (drop (next + 1) items))
  left_here item is fits =
      ap (λ (l : List A). drop offset (texts_behind later (map text l))) is
      ∙ ap (drop offset) (behind_next later (text item) (map text (drop (next + 1) items)))
      ∙ drop-append-le offset (comma_before later ++ text item) (behind_commas (map text (drop (next + 1) items))) fits

module _ {A : Type 0} (text : A → List ℕ) (items : List A) (later : Bool) (next offset n : ℕ) (item : A) where
  abbrev at : ℕ → TextPlace
  at k = record { later = later; next = next; offset = k }

  pub goes_on : drop next items ≡ item ∷ drop (next + 1) items → IsPlaceIn text items (at offset) → n ≤ length (comma_before later ++ text item) → IsPlaceIn text items (at n)
  goes_on is p fits = record { fits = subst (λ (l : List A). FitsNext later (map text l) n) (sym is) fits; bounded = p.bounded }

  -- as much was moved
  pub moves_on : (middle new start : List ℕ) → drop next items ≡ item ∷ drop (next + 1) items → offset < n → n ≤ length (comma_before later ++ text item)
      → middle ++ left_at text items (at offset) ≡ start → new ++ drop n (comma_before later ++ text item) ≡ middle ++ drop offset (comma_before later ++ text item)
      → new ++ left_at text items (at n) ≡ start
  moves_on middle new start is less fits so_far put =
      let text_here = comma_before later ++ text item in
      let rest = behind_commas (map text (drop (next + 1) items)) in
      ap (λ (l : List ℕ). new ++ l) (left_here text items later next n item is fits)
      ∙ sym (append_assoc new (drop n text_here) rest)
      ∙ ap (λ (l : List ℕ). l ++ rest) put
      ∙ append_assoc middle (drop offset text_here) rest
      ∙ ap (λ (l : List ℕ). middle ++ l) (sym (left_here text items later next offset item is (omega (arith, less, fits))))
      ∙ so_far

  pub less_left : drop next items ≡ item ∷ drop (next + 1) items → offset < n → n ≤ length (comma_before later ++ text item) → length (left_at text items (at n)) < length (left_at text items (at offset))
  less_left is less fits =
      let text_here = comma_before later ++ text item in
      let rest = behind_commas (map text (drop (next + 1) items)) in
      omega (arith, less, fits, ap (λ (l : List ℕ). length l) (left_here text items later next n item is fits), ap (λ (l : List ℕ). length l) (left_here text items later next offset item is (omega (arith, less, fits))), length-append (drop n text_here) rest, length-append (drop offset text_here) rest, length-drop n text_here, length-drop offset text_here)
