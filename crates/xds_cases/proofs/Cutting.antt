-- Where a text is cut at a word, as the library's searches find it.
use Rattle.std.proofs.Common.{◌≡◌, ℕ, zero, suc, ◌<◌, ◌≤◌, Bool, true, false, cond, List, [], ◌∷◌, ◌++◌, length, take, drop, refl, sym, ap, subst, ◌∙◌, arith, ⊎_elim, length-append, append-nil}
use Rattle.std.specs.Prelude.{Option, Some, None, MatchOption, nat_eq}
use Rattle.std.specs.Option.{option_map}
use Rattle.std.specs.Borrow.{Bor}
use Rattle.std.specs.List.{onto_first, starts_with}
use Rattle.std.specs.Str.Pattern.{FindsText, LacksTextAt, SplitsAroundMatch}
use Rattle.std.specs.Str.Replace.{ReplacesMatches}
use Rattle.std.specs.Str.Iter.{split_steps, split_text, split_has_more, split_pattern}
use Rattle.std.proofs.lemmas.List.{drop_at}
use Rattle.std.proofs.lemmas.Bool.Decides.{Decides-eqb}
use Rattle.std.proofs.lemmas.Slice.Eq.{starts_is}
use Rattle.std.proofs.lemmas.Iterator.{YieldsList}
use Rattle.std.proofs.lemmas.Iterator.Splits.{YieldsList-from_shown_while}
use Rattle.xds_cases.specs.Texts.{Text, begins_with, around, pieces_past, pieces, each_behind, joined, replaced}

-- a text that begins with a word, and one that lacks it there
begins-true : (word text rest : Text) → 0 < length word → text ≡ word ++ rest → begins_with word text ≡ true
begins-true [] text rest some e = absurd (omega arith)
begins-true (b ∷ bs) text rest some e = (starts_is Decides-eqb text (b ∷ bs) _ refl).1 rest e

lacks-starts : (word text : Text) (r : Bool) → r ≡ starts_with nat_eq text word → LacksTextAt word text 0 → r ≡ false
lacks-starts word text false e lacks = refl
lacks-starts word text true e lacks = absurd (lacks _ ((starts_is Decides-eqb text word true e).0 refl))

begins-false : (word text : Text) → LacksTextAt word text 0 → begins_with word text ≡ false
begins-false [] text lacks = refl
begins-false (b ∷ bs) text lacks = lacks-starts (b ∷ bs) text _ refl lacks

-- The first place of a word in a text is i, and the rest stands behind it.
pub record IsFirstAt (word text : Text) (i : ℕ) (rest : Text) : Type 0 where
  pub some : 0 < length word
  pub none_before : (k : ℕ) → k < i → LacksTextAt word text k
  pub here : drop i text ≡ word ++ rest

later : (word : Text) (b : ℕ) (bs : Text) (i : ℕ) (rest : Text) → IsFirstAt word (b ∷ bs) (suc i) rest → IsFirstAt word bs i rest
later word b bs i rest h = record { some = h.some; none_before = λ k below. h.none_before (suc k) (omega arith); here = h.here }

not_past_end : (word : Text) (i : ℕ) (rest : Text) → IsFirstAt word [] i rest → ⊥
not_past_end word zero rest h = let e = ap length h.here in let some = h.some in omega (arith, length-append {A = ℕ})
not_past_end word (suc i) rest h = let e = ap length h.here in let some = h.some in omega (arith, length-append {A = ℕ})

around-test : (word : Text) (b : ℕ) (bs : Text) (r : Bool) → begins_with word (b ∷ bs) ≡ r
    → around word (b ∷ bs) ≡ cond r (Some ([], drop (length word) (b ∷ bs))) (option_map (λ p. (b ∷ p.0, p.1)) (around word bs))
around-test word b bs r e = ap (λ t. cond t (Some ([], drop (length word) (b ∷ bs))) (option_map (λ p. (b ∷ p.0, p.1)) (around word bs))) e

around-at : (word text : Text) (i : ℕ) (rest : Text) → IsFirstAt word text i rest → around word text ≡ Some (take i text, rest)
around-at word [] i rest h = absurd (not_past_end word i rest h)
around-at word (b ∷ bs) zero rest h =
    around-test word b bs true (begins-true word (b ∷ bs) rest h.some h.here) ∙ ap (λ (t : Text). Some ([], t)) (ap (drop (length word)) h.here ∙ drop_at word rest (length word) refl)
around-at word (b ∷ bs) (suc i) rest h =
    around-test word b bs false (begins-false word (b ∷ bs) (h.none_before zero (omega arith))) ∙ ap (option_map (λ p. (b ∷ p.0, p.1))) (around-at word bs i rest (later word b bs i rest h))

around-none : (word text : Text) → ((k : ℕ) → k ≤ length text → LacksTextAt word text k) → around word text ≡ None
around-none word [] none = refl
around-none word (b ∷ bs) none =
    around-test word b bs false (begins-false word (b ∷ bs) (none zero (omega arith))) ∙ ap (option_map (λ p. (b ∷ p.0, p.1))) (around-none word bs (λ k within. none (suc k) (omega arith)))

-- `split_once` at a word
pub split_once-around : (word text : Text) (r : Option (Bor Text × Bor Text)) → 0 < length word
    → MatchOption r (FindsText word text None) (λ x. SplitsAroundMatch (FindsText word) text x.0.now x.1.now)
    → option_map (λ p. (p.0.now, p.1.now)) r ≡ around word text
split_once-around word text None some h = sym (around-none word text h)
split_once-around word text (Some x) some h =
    let at : IsFirstAt word text h.0 (drop h.1 text) = record { some = some; none_before = h.2.0; here = h.2.1.split } in
    (λ i. Some (h.3 i, h.4 i)) ∙ sym (around-at word text h.0 (drop h.1 text) at)

-- the pieces of a text
pieces-test : (word : Text) (b : ℕ) (bs : Text) (r : Bool) → begins_with word (b ∷ bs) ≡ r
    → pieces word (b ∷ bs) ≡ cond r ([] ∷ pieces_past word (length (drop 1 word)) bs) (onto_first b (pieces word bs))
pieces-test word b bs r e = ap (λ t. cond t ([] ∷ pieces_past word (length (drop 1 word)) bs) (onto_first b (pieces word bs))) e

pieces-passed : (word : Text) (passed : ℕ) (bs : Text) → pieces_past word passed bs ≡ pieces word (drop passed bs)
pieces-passed word zero bs = refl
pieces-passed word (suc passed) [] = refl
pieces-passed word (suc passed) (b ∷ bs) = pieces-passed word passed bs

drop-word : (word rest : Text) (b : ℕ) (bs : Text) → 0 < length word → b ∷ bs ≡ word ++ rest → drop (length (drop 1 word)) bs ≡ rest
drop-word [] rest b bs some e = absurd (omega arith)
drop-word (c ∷ cs) rest b bs some e = ap (drop (length cs)) {x = bs} {y = cs ++ rest} (cc) ∙ drop_at cs rest (length cs) refl

pub pieces-at : (word text : Text) (i : ℕ) (rest : Text) → IsFirstAt word text i rest → pieces word text ≡ take i text ∷ pieces word rest
pieces-at word [] i rest h = absurd (not_past_end word i rest h)
pieces-at word (b ∷ bs) zero rest h =
    pieces-test word b bs true (begins-true word (b ∷ bs) rest h.some h.here)
    ∙ ap (λ (ps : List Text). [] ∷ ps) (pieces-passed word (length (drop 1 word)) bs ∙ ap (pieces word) (drop-word word rest b bs h.some h.here))
pieces-at word (b ∷ bs) (suc i) rest h =
    pieces-test word b bs false (begins-false word (b ∷ bs) (h.none_before zero (omega arith))) ∙ ap (onto_first b) (pieces-at word bs i rest (later word b bs i rest h))

pub pieces-none : (word text : Text) → ((k : ℕ) → k ≤ length text → LacksTextAt word text k) → pieces word text ≡ text ∷ []
pieces-none word [] none = refl
pieces-none word (b ∷ bs) none =
    pieces-test word b bs false (begins-false word (b ∷ bs) (none zero (omega arith))) ∙ ap (onto_first b) (pieces-none word bs (λ k within. none (suc k) (omega arith)))

-- a text has a piece at least
each_behind-pieces : (by word text : Text) → by ++ joined by (pieces word text) ≡ each_behind by (pieces word text)
each_behind-pieces by word text = of_some (pieces word text) (first_piece word text)
  where
    of_some : (ps : List Text) → (first : Text) × (more : List Text) × (ps ≡ first ∷ more) → by ++ joined by ps ≡ each_behind by ps
    of_some [] h = cc
    of_some (p ∷ ps) h = refl

    of_onto : (b : ℕ) (ps : List Text) → (first : Text) × (more : List Text) × (onto_first b ps ≡ first ∷ more)
    of_onto b [] = (b ∷ [], [], refl)
    of_onto b (p ∷ ps) = (b ∷ p, ps, refl)

    first_piece : (word text : Text) → (first : Text) × (more : List Text) × (pieces word text ≡ first ∷ more)
    first_piece word [] = ([], [], refl)
    first_piece word (b ∷ bs) = elim (begins_with word (b ∷ bs)) as (λ r. (first : Text) × (more : List Text) × (cond r ([] ∷ pieces_past word (length (drop 1 word)) bs) (onto_first b (pieces word bs)) ≡ first ∷ more)) [
      | true ↦ ([], pieces_past word (length (drop 1 word)) bs, refl)
      | false ↦ of_onto b (pieces word bs)
    ]

-- no text begins with the empty word
pub pieces-empty : (text : Text) → pieces [] text ≡ text ∷ []
pieces-empty [] = refl
pieces-empty (b ∷ bs) = ap (onto_first b) (pieces-empty bs)

-- a text in which the library put `to` in each place of a word
pub replaced-matches : (word to text all : Text) (n : ℕ) (p : Bor Text) → 0 < length word → p.now ≡ word
    → ReplacesMatches (λ q. FindsText q.now) (λ q r. r.now ≡ q.now) to n p text all → joined to (pieces word text) ≡ all
replaced-matches word to text all zero p some is h =
    ap (joined to) (pieces-none word text (subst (λ w. FindsText w text None) is h.0)) ∙ append-nil text ∙ sym h.1
replaced-matches word to text all (suc n) p some is h =
    let found : FindsText word text (Some (h.0, h.1)) = subst (λ w. FindsText w text (Some (h.0, h.1))) is h.4 in
    let at : IsFirstAt word text h.0 (drop h.1 text) = record { some = some; none_before = found.0; here = found.1.split } in
    let rest : joined to (pieces word (drop h.1 text)) ≡ h.3 =
    ⊎_elim (λ k. replaced-matches word to (drop h.1 text) h.3 n h.2 some (h.5 ∙ is) k.1) (λ k. let e = k.0 in absurd (omega (arith, found.1.ends))) h.6 in
    ap (joined to) (pieces-at word text h.0 (drop h.1 text) at)
    ∙ ap (λ t. take h.0 text ++ t) (sym (each_behind-pieces to word (drop h.1 text)) ∙ ap (λ t. to ++ t) rest)
    ∙ sym h.7

-- `replace`
pub replaced-by : (word to text all : Text) (p : Bor Text) → 0 < length word → p.now ≡ word
    → (n : ℕ) × ReplacesMatches (λ q. FindsText q.now) (λ q r. r.now ≡ q.now) to n p text all → all ≡ replaced word to text
unfolding replaced
replaced-by word to text all p some is h = sym (replaced-matches word to text all h.0 p some is h.1)

pub replaced-empty : (to text : Text) → text ≡ replaced [] to text
unfolding replaced
replaced-empty to text = sym (ap (joined to) (pieces-empty text) ∙ append-nil text)

-- a piece that a step of `split` gives
piece_came : (word text x rest : Text) (live : Bool) (o : Option (ℕ × ℕ)) → 0 < length word → FindsText word text o
    → MatchOption o ((x ≡ text) × (live ≡ false)) (λ q. 0 < q.1 → (x ≡ take q.0 text) × (live ≡ true) × (rest ≡ drop q.1 text))
    → pieces word text ≡ x ∷ cond live (pieces word rest) []
piece_came word text x rest live None some found h = pieces-none word text found ∙ (λ i. sym h.0 i ∷ cond (sym h.1 i) (pieces word rest) [])
piece_came word text x rest live (Some q) some found h =
    let at : IsFirstAt word text q.0 (drop q.1 text) = record { some = some; none_before = found.0; here = found.1.split } in
    let k = h (omega (arith, found.1.ends)) in
    pieces-at word text q.0 (drop q.1 text) at ∙ (λ i. sym k.0 i ∷ cond (sym k.1 i) (pieces word (sym k.2 i)) [])

-- the pieces that `split` gives at a word; the last three facts are the call's clauses `text`, `has_more` and `pattern`
pub YieldsList-pieces : {s : _} (word text : Text) → 0 < length word → split_text {P = Bor Text} s ≡ text → split_has_more {P = Bor Text} s ≡ true → (split_pattern {P = Bor Text} s).now ≡ word
    → YieldsList (split_steps (λ q. FindsText q.now) (λ q r. r.now ≡ q.now)) (λ x. x.now) s (pieces word text)
YieldsList-pieces {s} word text some from more pattern =
    let steps = split_steps {P = Bor Text} (λ q. FindsText q.now) (λ q r. r.now ≡ q.now) in
    let shown = λ (t : _). cond (split_has_more {P = Bor Text} t) (pieces word (split_text t)) [] in
    subst (YieldsList steps (λ x. x.now) s) (λ i. cond (more i) (pieces word (from i)) [])
    (YieldsList-from_shown_while steps (λ x. x.now) shown (λ t. (split_pattern {P = Bor Text} t).now ≡ word)
    (λ t u h k. ap (λ b. length (cond b (pieces word (split_text t)) [])) (sym k.0))
    (λ t x u h k.
    let came = k.1.1.1 in (
      k.1.0 ∙ h,
      ap (λ b. cond b (pieces word (split_text t)) []) (sym k.0)
          ∙ piece_came word (split_text t) x.now (split_text u) (split_has_more u) came.0 some (subst (λ w. FindsText w (split_text t) came.0) h came.1) came.2,
    ))
    s pattern)

-- the two parts of a text that has the word
pub cut_at : (r : Option (Bor Text × Bor Text)) (x : Bor Text × Bor Text) (o : Option (Text × Text)) → r ≡ Some x → option_map (λ p. (p.0.now, p.1.now)) r ≡ o → Some (x.0.now, x.1.now) ≡ o
cut_at r x o is e = sym (ap (option_map (λ p. (p.0.now, p.1.now))) is) ∙ e

pub not_cut : (r : Option (Bor Text × Bor Text)) (o : Option (Text × Text)) → r ≡ None → option_map (λ p. (p.0.now, p.1.now)) r ≡ o → None ≡ o
not_cut r o is e = sym (ap (option_map (λ p. (p.0.now, p.1.now))) is) ∙ e

-- the same of an iterator that a `for` makes of a call of `split` at p
pub YieldsList-split : {i s : _} (word text : Text) (p : Bor Text) → 0 < length word → i ≡ s → split_text {P = Bor Text} s ≡ text → split_has_more {P = Bor Text} s ≡ true → split_pattern {P = Bor Text} s ≡ p → p.now ≡ word
    → YieldsList (split_steps (λ q. FindsText q.now) (λ q r. r.now ≡ q.now)) (λ x. x.now) i (pieces word text)
YieldsList-split {i} {s} word text p some is from more pattern at =
    YieldsList-pieces word text some (ap (λ t. split_text {P = Bor Text} t) is ∙ from) (ap (λ t. split_has_more {P = Bor Text} t) is ∙ more) (ap (λ t. (split_pattern {P = Bor Text} t).now) is ∙ ap (λ (q : Bor Text). q.now) pattern ∙ at)
