-- A trace at which no rule is broken has no first broken line, and any other has one at most.
use Rattle.std.proofs.Common.{◌≡◌, ◌<◌, ◌⊎◌, inl, inr, ℕ, ◌+◌, List, [], ◌∷◌, ◌++◌, length, reverse, Bool, true, false, Option, Some, None, nat_lt, refl, sym, ap, subst, ◌∙◌, arith, append_assoc, ltb-false, ltb-true}
use Rattle.std.proofs.lemmas.List.{reverse-append}
use Rattle.xds_check.specs.declared.line.Line.{Line}
use Rattle.xds_check.specs.declared.rule.Rule.{Rule}
use Rattle.xds_check.specs.Laws.{NoneBrokenHasNoFirst, OneIsFirst}
use Rattle.xds_check.specs.declared.checking.Broken.{Broken}
use Rattle.xds_check.specs.Verdicts.{IsVerdict, TellsWell, TellsTheFirst}
use Rattle.xds_check.proofs.Deciding.{rule_at, rule_at-place}
use Rattle.xds_check.specs.Rules.{place, Breaks, KeepsRules, AllKeep, NoneBroken, FirstBroken}

-- ---- lines of a trace that keeps the rules

early_keep : (late early : List Line) → AllKeep (late ++ early) → AllKeep early
early_keep [] early kept = kept
early_keep (l ∷ late) early kept = early_keep late early kept.1

around : (before after : List Line) (l : Line) → reverse (before ++ l ∷ after) ≡ reverse after ++ l ∷ reverse before
around before after l = ap reverse (sym (append_assoc before (l ∷ []) after)) ∙ reverse-append (before ++ l ∷ []) after ∙ ap (λ (e : List Line). reverse after ++ e) (reverse-append before (l ∷ []))

line_keeps : (before after : List Line) (l : Line) → NoneBroken (before ++ l ∷ after) → KeepsRules (reverse before) l
line_keeps before after l kept = (early_keep (reverse after) (l ∷ reverse before) (subst AllKeep (around before after l) kept)).0

pub none_has_no_first : NoneBrokenHasNoFirst
none_has_no_first trace number rule kept first = line_keeps first.before first.after first.line (subst NoneBroken first.trace_is kept) rule first.broken

-- ---- two lines of one trace

-- the same place, or one before the other
abbrev AreCompared : List Line → Line → List Line → Line → Type 0
AreCompared p l q k = ((p ≡ q) × (l ≡ k)) ⊎ (((rest : List Line) × (q ≡ p ++ l ∷ rest)) ⊎ ((rest : List Line) × (p ≡ q ++ k ∷ rest)))

tail_same : (x y : Line) (xs ys : List Line) → x ∷ xs ≡ y ∷ ys → (x ≡ y) × (xs ≡ ys)
tail_same x y xs ys e = (cc, cc)

behind_both : (x y : Line) (p q : List Line) (l k : Line) → x ≡ y → AreCompared p l q k → AreCompared (x ∷ p) l (y ∷ q) k
behind_both x y p q l k same (inl here) = inl (λ i. same i ∷ here.0 i, here.1)
behind_both x y p q l k same (inr (inl later)) = inr (inl (later.0, (λ i. sym same i ∷ later.1 i)))
behind_both x y p q l k same (inr (inr earlier)) = inr (inr (earlier.0, (λ i. same i ∷ earlier.1 i)))

compared : (p q a b : List Line) (l k : Line) → p ++ l ∷ a ≡ q ++ k ∷ b → AreCompared p l q k
compared [] [] a b l k same = inl (refl, (tail_same l k a b same).0)
compared [] (y ∷ q) a b l k same = inr (inl (q, (λ i. sym (tail_same l y a (q ++ k ∷ b) same).0 i ∷ q)))
compared (x ∷ p) [] a b l k same = inr (inr (p, (λ i. (tail_same x k (p ++ l ∷ a) b same).0 i ∷ p)))
compared (x ∷ p) (y ∷ q) a b l k same =
    let both = tail_same x y (p ++ l ∷ a) (q ++ k ∷ b) same in
    behind_both x y p q l k both.0 (compared p q a b l k both.1)

-- ---- the least rule

neither_less : (m n : ℕ) → nat_lt m n ≡ false → nat_lt n m ≡ false → m ≡ n
neither_less m n a b = omega (arith, ltb-false m n a, ltb-false n m b)

-- the rule is broken at a line, and no lesser one is
abbrev IsLeast : List Line → Line → Rule → Type 0
IsLeast earlier l rule = Breaks rule earlier l × ((other : Rule) → place other < place rule → ¬ (Breaks other earlier l))

least_by : (earlier : List Line) (l : Line) (r s : Rule) (below above : Bool) → nat_lt (place r) (place s) ≡ below → nat_lt (place s) (place r) ≡ above → IsLeast earlier l r → IsLeast earlier l s → r ≡ s
least_by earlier l r s true above a b first second = absurd (second.1 r (ltb-true (place r) (place s) a) first.0)
least_by earlier l r s false true a b first second = absurd (first.1 s (ltb-true (place s) (place r) b) second.0)
least_by earlier l r s false false a b first second = sym (rule_at-place r) ∙ ap rule_at (neither_less (place r) (place s) a b) ∙ rule_at-place s

-- ---- two first lines

-- a line before the first broken one breaks nothing
before_keeps : {X : Type 0} (p q rest : List Line) (l : Line) (rule : Rule) → q ≡ p ++ l ∷ rest → NoneBroken q → Breaks rule (reverse p) l → X
before_keeps p q rest l rule is kept broken = absurd (line_keeps p rest l (subst NoneBroken is kept) rule broken)

first_by : (trace : List Line) (m n : ℕ) (r s : Rule) (f : FirstBroken trace m r) (g : FirstBroken trace n s) → AreCompared f.before f.line g.before g.line → (m ≡ n) × (r ≡ s)
first_by trace m n r s f g (inl here) =
    let there : IsLeast (reverse g.before) g.line r = subst (λ (x : List Line × Line). IsLeast (reverse x.0) x.1 r) (λ i. (here.0 i, here.1 i)) (f.broken, f.least) in (
      f.number_is ∙ ap (λ (e : List Line). length e + 1) here.0 ∙ sym g.number_is,
      least_by (reverse g.before) g.line r s (nat_lt (place r) (place s)) (nat_lt (place s) (place r)) refl refl there (g.broken, g.least),
    )
first_by trace m n r s f g (inr (inl later)) = before_keeps f.before g.before later.0 f.line r later.1 g.kept f.broken
first_by trace m n r s f g (inr (inr earlier)) = before_keeps g.before f.before earlier.0 g.line s earlier.1 f.kept g.broken

pub one_is_first : OneIsFirst
one_is_first trace m n r s f g = first_by trace m n r s f g (compared f.before g.before f.after g.after f.line g.line (sym f.trace_is ∙ g.trace_is))

-- ---- the verdict is the only one

pub well_told : (trace : List Line) (told : Option Broken) → IsVerdict trace told → TellsWell trace told
well_told trace None h = λ kept. refl
well_told trace (Some b) h = λ kept. absurd (none_has_no_first trace b.line b.rule kept h)

pub first_told : (trace : List Line) (told : Option Broken) → IsVerdict trace told → TellsTheFirst trace told
first_told trace None h = λ number rule first. absurd (none_has_no_first trace number rule h first)
first_told trace (Some b) h = λ number rule first. let both = one_is_first trace b.line number b.rule rule h first in (λ i. Some (both.0 i, both.1 i))
