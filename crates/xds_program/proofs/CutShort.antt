-- What is known of a trace that may be cut short.
use Rattle.std.proofs.Common.{◌≡◌, ◌∙◌, ◌==◌, ◌||◌, ◌++◌, ℕ, List, [], ◌∷◌, Bool, true, false, inl, inr, ◌⊎◌, refl, ap, sym, subst, append_assoc, append-nil, true≢false, Option, Some, None, IfSome, IfNone}
use Rattle.std.specs.List.{list_any}
use Rattle.std.proofs.lemmas.List.Folds.{list_any-append}
use Rattle.xds_check.specs.declared.line.Line.{Line}
use Rattle.xds_check.specs.declared.checking.Broken.{Broken}
use Rattle.xds_check.specs.declared.piecewise.PiecewiseChecker.{PiecewiseChecker}
use Rattle.xds_check.specs.Checkers.{HasRead}
use Rattle.xds_check.specs.Laws.{ATraceHasNoBadLine}
use Rattle.xds_check.specs.Texts.{IsFirstBad, IsOneLine, IsTrace, ended}
use Rattle.xds_program.specs.declared.judge.Unjudged.{Unjudged}
use Rattle.xds_program.specs.declared.judge.Unjudged.TheVariants.{BadTrace, OutOfMemory}
use Rattle.xds_program.specs.Judged.{IsJudged, IsUnjudged}
use Rattle.xds_program.specs.SoFar.{EndsLine, IsJudgedSoFar, IsLastLine, IsLeftUnjudged}

-- the last line is refused, and those before it are judged
pub cut_judged : (front last : List ℕ) (before broken : Option Broken) (cut : Option ℕ) (why : Unjudged) → IsLastLine last → IsJudged front before
    → IsUnjudged (front ++ last) why → broken ≡ before → IfNone cut ⊥ → IfSome cut (λ line. why ≡ BadTrace line) → IsJudgedSoFar (front ++ last) broken cut
cut_judged front last before broken None why is_last judged bad same none some = absurd none
cut_judged front last before broken (Some line) why is_last judged bad same none some = record {
  front = front;
  last = last;
  bytes_are = refl;
  is_last = is_last;
  judged = subst (IsJudged front) (sym same) judged;
  first_bad = subst (IsUnjudged (front ++ last)) some bad;
}

-- ---- whole lines

-- a text that ends with a line feed is no line
ends_feed : (text : List ℕ) → list_any (λ b. b == 10) (text ++ 10 ∷ []) ≡ false → ⊥
ends_feed text none = go (list_any (λ b. b == 10) text) (sym (list_any-append (λ b. b == 10) text (10 ∷ [])) ∙ none)
  where
    go : (t : Bool) → (t || true) ≡ false → ⊥
    go true e = true≢false e
    go false e = true≢false e

-- some bytes are none, or have a last one
ends : (bytes : List ℕ) → (bytes ≡ []) ⊎ ((text : List ℕ) × (b : ℕ) × (bytes ≡ text ++ b ∷ []))
ends [] = inl refl
ends (b ∷ bs) = go (ends bs)
  where
    go : (bs ≡ []) ⊎ ((text : List ℕ) × (c : ℕ) × (bs ≡ text ++ c ∷ [])) → (b ∷ bs ≡ []) ⊎ ((text : List ℕ) × (c : ℕ) × (b ∷ bs ≡ text ++ c ∷ []))
    go (inl none) = inr ([], b, ap (λ (l : List ℕ). b ∷ l) none)
    go (inr (text, c, is)) = inr (b ∷ text, c, ap (λ (l : List ℕ). b ∷ l) is)

-- two texts that are one have one last byte
last_same : (one other : List ℕ) (b c : ℕ) → one ++ b ∷ [] ≡ other ++ c ∷ [] → b ≡ c
last_same [] [] b c e = cc
last_same [] (x ∷ []) b c e = absurd (cc)
last_same [] (x ∷ y ∷ other) b c e = absurd (cc)
last_same (x ∷ []) [] b c e = absurd (cc)
last_same (x ∷ y ∷ one) [] b c e = absurd (cc)
last_same (x ∷ one) (y ∷ other) b c e =
    let rest : one ++ b ∷ [] ≡ other ++ c ∷ [] = cc in
    last_same one other b c rest

no_end : (text : List ℕ) (b : ℕ) → text ++ b ∷ [] ≡ [] → ⊥
no_end [] b e = cc
no_end (x ∷ text) b e = cc

-- a line that is begun behind whole lines ends with no line feed
joined : (texts text held : List ℕ) (b : ℕ) → held ≡ text ++ b ∷ [] → texts ++ held ≡ (texts ++ text) ++ b ∷ []
joined texts text held b is = ap (λ (l : List ℕ). texts ++ l) is ∙ sym (append_assoc texts text (b ∷ []))

begun_never : (texts text held : List ℕ) (b : ℕ) → held ≡ text ++ b ∷ [] → IsOneLine held → EndsLine (texts ++ held) → ⊥
begun_never texts text held b is one (inl none) = no_end (texts ++ text) b (sym (joined texts text held b is) ∙ none)
begun_never texts text held b is one (inr (front, ended_so)) =
    let feed : b ≡ 10 = last_same (texts ++ text) front b 10 (sym (joined texts text held b is) ∙ ended_so) in
    ends_feed text (subst (λ (l : List ℕ). list_any (λ x. x == 10) l ≡ false) (is ∙ ap (λ (x : ℕ). text ++ x ∷ []) feed) one)

-- what begins a line behind whole lines is nothing
nothing_begun : (texts held : List ℕ) → EndsLine (texts ++ held) → IsOneLine held → held ≡ []
nothing_begun texts held whole one = go (ends held)
  where
    go : (held ≡ []) ⊎ ((text : List ℕ) × (b : ℕ) × (held ≡ text ++ b ∷ [])) → held ≡ []
    go (inl none) = none
    go (inr (text, b, is)) = absurd (begun_never texts text held b is one whole)

-- whole lines that were read are a trace
read_trace : (front : List ℕ) (c : PiecewiseChecker) → HasRead front c → EndsLine front → (lines : List Line) × IsTrace front lines
read_trace front c r whole =
    let none = nothing_begun (ended r.texts) c.held.items (subst EndsLine r.bytes_are whole) r.begun in
    (r.lines, record { texts = r.texts; bytes_are = r.bytes_are ∙ ap (λ (l : List ℕ). ended r.texts ++ l) none ∙ append-nil (ended r.texts); each = r.each; say = r.say })

-- so that there is a verdict on them, but for want of memory
pub front_judged : ATraceHasNoBadLine → (bytes front : List ℕ) (c : PiecewiseChecker) (why : Unjudged) → HasRead front c → EndsLine front → IsUnjudged front why → IsLeftUnjudged bytes why
front_judged law bytes front c (BadTrace line) r whole bad =
    let trace = read_trace front c r whole in
    absurd (law front trace.0 line trace.1 bad)
front_judged law bytes front c OutOfMemory r whole bad = tt

-- a bad line among whole lines isn't the last one
pub front_refused : ATraceHasNoBadLine → (bytes front last : List ℕ) (c : PiecewiseChecker) (why : Unjudged) → HasRead [] c → bytes ≡ front ++ last → EndsLine front
    → (last ≡ [] → front ≡ []) → IsUnjudged (front ++ last) why → IsUnjudged front why → IsLeftUnjudged bytes why
front_refused law bytes front last c (BadTrace line) r is whole some all_bad bad =
    let trace = read_trace [] c r (inl refl) in (
      subst (λ (l : List ℕ). IsFirstBad l line) (sym is) all_bad,
      (front, last, is, whole, (λ (none : last ≡ []). law [] trace.0 line trace.1 (subst (λ (l : List ℕ). IsFirstBad l line) (some none) bad)), bad),
    )
front_refused law bytes front last c OutOfMemory r is whole some all_bad bad = tt
