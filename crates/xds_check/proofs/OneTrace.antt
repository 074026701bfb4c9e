-- Bytes are one trace at most, and those that are one have no bad line.
use Rattle.std.proofs.Common.{◌≡◌, ℕ, List, [], ◌∷◌, ◌++◌, length, reverse, drop, get_or, All, true, inl, inr, refl, ap, sym, ◌∙◌, subst, arith, append_assoc, append-nil, length-append, eq-eqb}
use Rattle.std.specs.Prelude.{◌==◌}
use Rattle.std.specs.List.{list_any}
use Rattle.std.proofs.lemmas.Bool.{true≢false, or_parts, or_right}
use Rattle.std.proofs.lemmas.List.Elements.{All-head, All-tail}
use Rattle.xds_check.specs.declared.line.Line.{Line}
use Rattle.xds_check.specs.Streams.{may_follow}
use Rattle.xds_check.specs.Texts.{Says, SayAll, ended, IsOneLine, IsBad, BeginsBadly}
use Rattle.xds_check.specs.Laws.{BytesAreOneTrace, ATraceHasNoBadLine}
use Rattle.xds_check.proofs.OneMeaning.{one_line_said}
use Rattle.xds_check.proofs.Traces.{reverse-front}

-- ---- texts by their line feeds

rest_is_one : (b : ℕ) (s : List ℕ) → IsOneLine (b ∷ s) → IsOneLine s
rest_is_one b s one = (or_parts (b == 10) (list_any (λ b. b == 10) s) one).1

first_is_no_feed : (b : ℕ) (s : List ℕ) → IsOneLine (b ∷ s) → b ≡ 10 → ⊥
first_is_no_feed b s one is = true≢false (sym (eq-eqb b 10 is) ∙ (or_parts (b == 10) (list_any (λ b. b == 10) s) one).0)

ended_alike : (t u x y : List ℕ) → IsOneLine t → IsOneLine u → t ++ 10 ∷ x ≡ u ++ 10 ∷ y → (t ≡ u) × (x ≡ y)
ended_alike [] [] x y p q e = (refl, ap (drop 1) e)
ended_alike [] (b ∷ u) x y p q e = absurd (first_is_no_feed b u q (sym (ap (λ l. get_or l 0 0) e)))
ended_alike (a ∷ t) [] x y p q e = absurd (first_is_no_feed a t p (ap (λ l. get_or l 0 0) e))
ended_alike (a ∷ t) (b ∷ u) x y p q e =
    let first = ap (λ l. get_or l 0 0) e in
    let later = ended_alike t u x y (rest_is_one a t p) (rest_is_one b u q) (ap (drop 1) e) in
    ((λ i. first i ∷ later.0 i), later.1)

not_ended : (t x : List ℕ) → [] ≡ t ++ 10 ∷ x → ⊥
not_ended t x e = omega (arith, ap length e, length-append t (10 ∷ x))

-- texts that end alike up to here are the same up to here
texts_from : (ts us : List (List ℕ)) (rest : List ℕ) → All IsOneLine ts → All IsOneLine us → ended us ≡ ended ts ++ rest → (vs : List (List ℕ)) × (us ≡ ts ++ vs) × (rest ≡ ended vs)
texts_from [] us rest p q e = (us, refl, sym e)
texts_from (t ∷ ts) [] rest p q e = absurd (not_ended t (ended ts ++ rest) (e ∙ append_assoc t (10 ∷ ended ts) rest))
texts_from (t ∷ ts) (u ∷ us) rest p q e =
    let same = ended_alike u t (ended us) (ended ts ++ rest) (All-head IsOneLine u us q) (All-head IsOneLine t ts p) (e ∙ append_assoc t (10 ∷ ended ts) rest) in
    let later = texts_from ts us rest (All-tail IsOneLine t ts p) (All-tail IsOneLine u us q) same.1 in
    (later.0, (λ i. same.0 i ∷ later.1 i), later.2)

none_ended : (vs : List (List ℕ)) → [] ≡ ended vs → vs ≡ []
none_ended [] e = refl
none_ended (v ∷ vs) e = absurd (not_ended v (ended vs) e)

-- ---- one trace

all_said : (earlier : List Line) (texts : List (List ℕ)) (a b : List Line) → SayAll earlier texts a → SayAll earlier texts b → a ≡ b
all_said earlier [] [] [] p q = refl
all_said earlier [] [] (k ∷ b) p q = absurd q
all_said earlier [] (l ∷ a) b p q = absurd p
all_said earlier (t ∷ texts) [] b p q = absurd p
all_said earlier (t ∷ texts) (l ∷ a) [] p q = absurd q
all_said earlier (t ∷ texts) (l ∷ a) (k ∷ b) p q =
    let same = one_line_said t l k p.0 q.0 in
    let later = all_said (k ∷ earlier) texts a b (subst (λ x. SayAll (x ∷ earlier) texts a) same p.2) q.2 in
    λ i. same i ∷ later i

pub bytes_are_one_trace : BytesAreOneTrace
bytes_are_one_trace bytes a b p q =
    let from = texts_from p.texts q.texts [] p.each q.each (sym q.bytes_are ∙ p.bytes_are ∙ sym (append-nil (ended p.texts))) in
    let texts = from.1 ∙ ap (λ vs. p.texts ++ vs) (none_ended from.0 from.2) ∙ append-nil p.texts in
    all_said [] p.texts a b p.say (subst (λ ts. SayAll [] ts b) texts q.say)

-- ---- no bad line

-- of lines that texts say, those behind the first ones
said_from : (earlier : List Line) (ts vs : List (List ℕ)) (before trace : List Line) → SayAll earlier ts before → SayAll earlier (ts ++ vs) trace
    → (later : List Line) × SayAll (reverse before ++ earlier) vs later
said_from earlier [] vs [] trace p q = (trace, q)
said_from earlier [] vs (x ∷ before) trace p q = absurd p
said_from earlier (t ∷ ts) vs [] trace p q = absurd p
said_from earlier (t ∷ ts) vs (x ∷ before) [] p q = absurd q
said_from earlier (t ∷ ts) vs (x ∷ before) (y ∷ trace) p q =
    let same = one_line_said t y x q.0 p.0 in
    let later = said_from (x ∷ earlier) ts vs before trace p.2 (subst (λ l. SayAll (l ∷ earlier) (ts ++ vs) trace) same q.2) in
    (later.0, subst (λ (e : List Line). SayAll e vs later.0) (sym (reverse-front x before earlier)) later.1)

has_feed : (v x : List ℕ) → list_any (λ b. b == 10) (v ++ 10 ∷ x) ≡ true
has_feed [] x = refl
has_feed (b ∷ v) x = or_right (b == 10) (list_any (λ b. b == 10) (v ++ 10 ∷ x)) (has_feed v x)

good_line : (earlier : List Line) (text : List ℕ) (l : Line) → Says text l → may_follow earlier l ≡ true → IsBad earlier text → ⊥
good_line earlier text l says follows (inl none) = none l says
good_line earlier text l says follows (inr other) = true≢false (sym follows ∙ ap (may_follow earlier) (one_line_said text l other.0 says other.1) ∙ other.2)

begins_well : (earlier : List Line) (rest : List ℕ) (vs : List (List ℕ)) (later : List Line) → All IsOneLine vs → SayAll earlier vs later → rest ≡ ended vs → BeginsBadly earlier rest → ⊥
begins_well earlier rest [] later one said e (inl bad) = bad.0 e
begins_well earlier rest (v ∷ vs) later one said e (inl bad) = true≢false (sym (has_feed v (ended vs)) ∙ ap (list_any (λ b. b == 10)) (sym e) ∙ bad.1)
begins_well earlier rest [] later one said e (inr bad) = not_ended bad.0 bad.1 (sym e ∙ bad.2)
begins_well earlier rest (v ∷ vs) [] one said e (inr bad) = said
begins_well earlier rest (v ∷ vs) (l ∷ later) one said e (inr bad) =
    let same = ended_alike v bad.0 (ended vs) bad.1 (All-head IsOneLine v vs one) bad.3 (sym e ∙ bad.2) in
    good_line earlier bad.0 l (subst (λ (x : List ℕ). Says x l) same.0 said.0) said.1 bad.4

All-behind : (P : List ℕ → Type 0) (ts vs : List (List ℕ)) → All P (ts ++ vs) → All P vs
All-behind P [] vs all = all
All-behind P (t ∷ ts) vs all = All-behind P ts vs (All-tail P t (ts ++ vs) all)

pub a_trace_has_no_bad_line : ATraceHasNoBadLine
a_trace_has_no_bad_line bytes trace number p f =
    let from = texts_from f.texts p.texts f.rest f.each p.each (sym p.bytes_are ∙ f.bytes_are) in
    let later = said_from [] f.texts from.0 f.before trace f.say (subst (λ ts. SayAll [] ts trace) from.1 p.say) in
    begins_well (reverse f.before) f.rest from.0 later.0 (All-behind IsOneLine f.texts from.0 (subst (λ ts. All IsOneLine ts) from.1 p.each))
    (subst (λ (e : List Line). SayAll e from.0 later.0) (append-nil (reverse f.before)) later.1) from.2 f.bad
