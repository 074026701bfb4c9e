-- Lines that are taken one after another: what is kept is what they say, and the first broken one is told.
use Rattle.std.proofs.Common.{◌≡◌, ◌≢◌, ◌<◌, ◌≤◌, ◌+◌, ℕ, zero, suc, List, [], ◌∷◌, ◌++◌, length, reverse, take, drop, get_or, Bool, true, false, cond, Option, Some, None, refl, sym, ap, subst, ◌∙◌, arith, add-one, append_assoc, length-append}
use Rattle.std.proofs.lemmas.Bool.{eqb-true, eq-eqb, and_parts}
use Rattle.std.specs.Prelude.{◌==◌, not, is_none, is_some}
use Rattle.std.specs.Option.{option_map_or, option_or, unwrap_or}
use Rattle.std.proofs.Math.Seq.{take-suc}
use Rattle.std.proofs.lemmas.List.{length-reverse, take_all, reverse-append}
use Rattle.xds_resource.specs.declared.types.TypeName.{TypeName}
use Rattle.xds_resource.specs.PerType.{PerType, at, each}
use Rattle.xds_resource.proofs.TypesApart.{at-each, at-per_type}
use Rattle.xds_check.specs.declared.checker.Checker.{Checker}
use Rattle.xds_check.specs.declared.checking.Broken.{Broken}
use Rattle.xds_check.specs.declared.line.Line.{Line}
use Rattle.xds_check.specs.declared.line.Line.TheVariants as lines
use Rattle.xds_check.specs.declared.rule.Rule.{Rule}
use Rattle.xds_check.specs.Checkers.{most_lines, IsJudged, HasTaken}
use Rattle.xds_check.specs.Judges.{JudgeKept, nothing_judged, without_stream, let_go_after, TellsOfAll, IsJudgeOf, AreJudgesOf, any_stream, is_left}
use Rattle.xds_check.specs.Kept.{StreamTalk, unheard}
use Rattle.xds_check.specs.Orders.{OrderKept, IsOrderOf, nothing_kept, kept_after, may_follow_in}
use Rattle.xds_check.specs.Rules.{Breaks, AllKeep, NoneBroken, FirstBroken}
use Rattle.xds_check.specs.Streams.{open_on, is_open, may_follow}
use Rattle.xds_check.specs.Verdicts.{IsVerdict}
use Rattle.xds_check.proofs.Deciding.{TellsLeast}
use Rattle.xds_check.proofs.StreamChanges.{elsewhere}
use Rattle.xds_check.proofs.Orderly.{nothing_yet, order_after, follows_same}
use Rattle.xds_check.proofs.Passing.{IsCounted, any_counted, broken_here, kept_here, judge_more, judge_first, few_changes}

-- ---- the first broken line

first_here : (trace before after : List Line) (l : Line) (number : ℕ) (r : Rule) → trace ≡ before ++ l ∷ after → number ≡ length before + 1 → NoneBroken before
    → TellsLeast (λ x. Breaks x (reverse before) l) (Some r) → FirstBroken trace number r
first_here trace before after l number r split count kept told =
    record { before = before; line = l; after = after; trace_is = split; number_is = count; kept = kept; broken = told.0; least = told.1 }

pub all_first : (Counts : ℕ → Type 0) (judges : PerType JudgeKept) → judges ≡ each nothing_judged → AreJudgesOf Counts [] judges
all_first Counts judges is t = subst (IsJudgeOf Counts t []) (sym (ap (λ (p : PerType JudgeKept). at p t) is ∙ at-each nothing_judged t)) (judge_first Counts t)

-- ---- the lines of a list

there : (xs : List Line) (i : ℕ) (d : Line) → i < length xs → xs ≡ take i xs ++ get_or xs i d ∷ drop (suc i) xs
there [] i d below = absurd (omega (arith, below))
there (x ∷ xs) zero d below = refl
there (x ∷ xs) (suc i) d below = ap (λ l. x ∷ l) (there xs i d (omega (arith, below)))

length_taken : (xs : List Line) (i : ℕ) → i < length xs → length (take i xs) ≡ i
length_taken [] i below = absurd (omega (arith, below))
length_taken (x ∷ xs) zero below = refl
length_taken (x ∷ xs) (suc i) below = ap suc (length_taken xs i (omega (arith, below)))

so_far : (trace : List Line) (i : ℕ) (l : Line) → i < length trace → l ≡ get_or trace i l → reverse (take (i + 1) trace) ≡ l ∷ reverse (take i trace)
so_far trace i l below is =
    ap (λ n. reverse (take n trace)) (add-one i) ∙ ap reverse (take-suc trace i l below) ∙ ap (λ x. reverse (take i trace ++ x ∷ [])) (sym is) ∙ reverse-append (take i trace) (l ∷ [])

-- so many lines of a list were taken: they keep the rules, and what is kept is what they say
pub record AreTakenOf (trace : List Line) (i : ℕ) (judges : PerType JudgeKept) : Type 0 where
  pub kept : AllKeep (reverse (take i trace))
  pub are : AreJudgesOf any_stream (reverse (take i trace)) judges

pub turn_first : (trace : List Line) (judges : PerType JudgeKept) → judges ≡ each nothing_judged → AreTakenOf trace 0 judges
turn_first trace judges is = record { kept = tt; are = all_first any_stream judges is }

pub turn_room : (trace : List Line) (i : ℕ) (judges : PerType JudgeKept) → i < length trace → AreTakenOf trace i judges → (t : TypeName) → (at judges t).held.changes ≤ i
turn_room trace i judges below r t = omega (arith, few_changes any_stream t (reverse (take i trace)) (at judges t) (r.are t), length-reverse (take i trace), length_taken trace i below)

pub turn_more : (trace : List Line) (i : ℕ) (l : Line) (judges new : PerType JudgeKept) → i < length trace → l ≡ get_or trace i l → AreTakenOf trace i judges → TellsOfAll l judges new None
    → AreTakenOf trace (i + 1) new
turn_more trace i l judges new below is r told =
    let e = reverse (take i trace) in
    let same = so_far trace i l below is in
    record {
      kept = subst AllKeep (sym same) (kept_here any_stream e judges l r.kept r.are (any_counted l) (λ t. (told t).unbroken));
      are = λ t. subst (λ (x : List Line). IsJudgeOf any_stream t x (at new t)) (sym same) (judge_more any_stream t e l (at judges t) (at new t) (r.are t) (told t));
    }

pub turn_broken : (trace : List Line) (i : ℕ) (l : Line) (judges new : PerType JudgeKept) (rule : Rule) → i < length trace → l ≡ get_or trace i l → AreTakenOf trace i judges
    → TellsOfAll l judges new (Some rule) → FirstBroken trace (i + 1) rule
turn_broken trace i l judges new rule below is r told =
    first_here trace (take i trace) (drop (suc i) trace) l (i + 1) rule (there trace i l below ∙ ap (λ x. take i trace ++ x ∷ drop (suc i) trace) (sym is))
    (ap (λ n. n + 1) (sym (length_taken trace i below))) r.kept (broken_here any_stream (reverse (take i trace)) judges l r.kept r.are (any_counted l) rule told)

pub turns_end : (trace : List Line) (i : ℕ) (judges : PerType JudgeKept) → length trace ≤ i → AreTakenOf trace i judges → IsVerdict trace None
turns_end trace i judges past r = subst NoneBroken (take_all i trace past) r.kept

-- ---- which streams are left

opened_left : (o : Option Bool) → unwrap_or o false ≡ true → option_map_or not o false ≡ false
opened_left None is = absurd cc
opened_left (Some true) is = refl
opened_left (Some false) is = absurd cc

none_left : (o : Option Bool) → is_none o ≡ true → option_map_or not o false ≡ false
none_left None is = refl
none_left (Some b) is = absurd cc

-- the stream of a line that may come is left
counted : (e : List Line) (l : Line) → may_follow e l ≡ true → IsCounted (is_left e) l
counted e (lines.Write w) follows = tt
counted e (lines.Open s) follows = tt
counted e (lines.Close s) follows = tt
counted e (lines.Request s q) follows = tt
counted e (lines.Response s a) follows = opened_left (open_on s e) (and_parts (is_open s e) _ follows).0
counted e (lines.Idle s u) follows = opened_left (open_on s e) follows

left_open : (s r : ℕ) (e : List Line) (here : Bool) → (r == s) ≡ here → is_none (open_on r e) ≡ true → option_map_or not (option_or (cond here (Some true) None) (open_on s e)) false ≡ false → is_left e s
left_open s r e true is new left = subst (is_left e) (eqb-true r s is) (none_left (open_on r e) new)
left_open s r e false is new left = left

apart : (r s : ℕ) → (r == s) ≡ false → r ≢ s
apart r s is same = let other = eq-eqb r s same in cc

left_closed : (s r : ℕ) (e : List Line) (here : Bool) → (r == s) ≡ here → option_map_or not (option_or (cond here (Some false) None) (open_on s e)) false ≡ false → (r ≢ s) × is_left e s
left_closed s r e true is left = absurd cc
left_closed s r e false is left = ((λ same. apart r s is same), left)

-- a stream that is left behind a line that may come was left before
left_before : (e : List Line) (l : Line) → may_follow e l ≡ true → (s : ℕ) → is_left (l ∷ e) s → is_left e s
left_before e (lines.Write w) follows s left = left
left_before e (lines.Open r) follows s left = left_open s r e (r == s) refl follows left
left_before e (lines.Close r) follows s left = (left_closed s r e (r == s) refl left).1
left_before e (lines.Request r q) follows s left = left
left_before e (lines.Response r a) follows s left = left
left_before e (lines.Idle r u) follows s left = left

fewer : (e : List Line) (l : Line) (t : TypeName) (j : JudgeKept) → may_follow e l ≡ true → IsJudgeOf (is_left e) t (l ∷ e) j → IsJudgeOf (is_left (l ∷ e)) t (l ∷ e) j
fewer e l t j follows of = record { held = of.held; talks = λ s left. of.talks s (left_before e l follows s left); live = of.live }

closed : (e : List Line) (r : ℕ) (t : TypeName) (j : JudgeKept) → IsJudgeOf (is_left e) t (lines.Close r ∷ e) j → IsJudgeOf (is_left (lines.Close r ∷ e)) t (lines.Close r ∷ e) (without_stream r j)
closed e r t j of = record {
  held = of.held;
  talks = λ s left.
      let parts = left_closed s r e (r == s) refl left in
      ap (λ (o : Option StreamTalk). unwrap_or o unheard) (elsewhere j.talks r s parts.0) ∙ of.talks s parts.1;
  live = of.live;
}

-- what was said of a stream that was closed is let go of
let_go : (e : List Line) (l : Line) (judges : PerType JudgeKept) → may_follow e l ≡ true → AreJudgesOf (is_left e) (l ∷ e) judges → AreJudgesOf (is_left (l ∷ e)) (l ∷ e) (let_go_after l judges)
let_go e (lines.Write w) judges follows are t = fewer e (lines.Write w) t (at judges t) follows (are t)
let_go e (lines.Open s) judges follows are t = fewer e (lines.Open s) t (at judges t) follows (are t)
let_go e (lines.Close s) judges follows are t =
    subst (IsJudgeOf (is_left (lines.Close s ∷ e)) t (lines.Close s ∷ e)) (sym (at-per_type (λ u. without_stream s (at judges u)) t)) (closed e s t (at judges t) (are t))
let_go e (lines.Request s q) judges follows are t = fewer e (lines.Request s q) t (at judges t) follows (are t)
let_go e (lines.Response s a) judges follows are t = fewer e (lines.Response s a) t (at judges t) follows (are t)
let_go e (lines.Idle s u) judges follows are t = fewer e (lines.Idle s u) t (at judges t) follows (are t)

-- ---- a line more

judged_broken : (trace : List Line) (l : Line) (old new : PerType JudgeKept) (b : Broken) → IsJudged trace old (Some b) → IsJudged (trace ++ l ∷ []) new (Some b)
judged_broken trace l old new b first = record {
  before = first.before;
  line = first.line;
  after = first.after ++ l ∷ [];
  trace_is = ap (λ (xs : List Line). xs ++ l ∷ []) first.trace_is ∙ append_assoc first.before (first.line ∷ first.after) (l ∷ []);
  number_is = first.number_is;
  kept = first.kept;
  broken = first.broken;
  least = first.least;
}

-- behind a broken line
pub still_broken : (trace : List Line) (l : Line) (old new : PerType JudgeKept) (o : Option Broken) → is_some o ≡ true → IsJudged trace old o → IsJudged (trace ++ l ∷ []) new o
still_broken trace l old new None is judged = absurd cc
still_broken trace l old new (Some b) is judged = judged_broken trace l old new b judged

-- where no line is broken so far
pub unbroken : (trace : List Line) (old : PerType JudgeKept) (o : Option Broken) → is_some o ≡ false → IsJudged trace old o → IsJudged trace old None
unbroken trace old None is judged = judged
unbroken trace old (Some b) is judged = absurd cc

none_there : (o : Option Broken) → is_some o ≡ false → o ≡ None
none_there None is = refl
none_there (Some b) is = absurd cc

pub judged_verdict : (trace : List Line) (judges : PerType JudgeKept) (o : Option Broken) → IsJudged trace judges o → IsVerdict trace o
judged_verdict trace judges None judged = judged.0
judged_verdict trace judges (Some b) judged = judged

module _ (trace : List Line) (l : Line) (old : PerType JudgeKept) (follows : may_follow (reverse trace) l ≡ true) where
  pub judged_told : (new : PerType JudgeKept) (taken : ℕ) (b : Broken) → taken ≡ length trace → IsJudged trace old None → TellsOfAll l old new (Some b.rule) → b.line ≡ taken + 1
      → (any : PerType JudgeKept) → IsJudged (trace ++ l ∷ []) any (Some b)
  judged_told new taken b count judged told number any =
      first_here (trace ++ l ∷ []) trace [] l b.line b.rule refl (number ∙ ap (λ n. n + 1) count) judged.0
      (broken_here (is_left (reverse trace)) (reverse trace) old l judged.0 judged.1 (counted (reverse trace) l follows) b.rule told)

  pub judged_on : (new : PerType JudgeKept) → IsJudged trace old None → TellsOfAll l old new None → IsJudged (trace ++ l ∷ []) (let_go_after l new) None
  judged_on new judged told =
      let e = reverse trace in
      let kept = kept_here (is_left e) e old l judged.0 judged.1 (counted e l follows) (λ t. (told t).unbroken) in
      let are = let_go e l new follows (λ t. judge_more (is_left e) t e l (at old t) (at new t) (judged.1 t) (told t)) in
      (subst AllKeep (sym (reverse-append trace (l ∷ []))) kept, subst (λ (x : List Line). AreJudgesOf (is_left x) x (let_go_after l new)) (sym (reverse-append trace (l ∷ []))) are)

-- the same, where none is broken so far
pub judged_still : (trace : List Line) (l : Line) (old new after : PerType JudgeKept) (o : Option Broken) → may_follow (reverse trace) l ≡ true → is_some o ≡ false → IsJudged trace old o → TellsOfAll l old new None
    → after ≡ let_go_after l new → IsJudged (trace ++ l ∷ []) after o
judged_still trace l old new after o follows none judged told is =
    subst (λ (x : Option Broken). IsJudged (trace ++ l ∷ []) after x) (sym (none_there o none))
    (subst (λ (j : PerType JudgeKept). IsJudged (trace ++ l ∷ []) j None) (sym is) (judged_on trace l old follows new (unbroken trace old o none judged) told))

-- there are no more changes than lines
pub judged_room : (trace : List Line) (judges : PerType JudgeKept) → IsJudged trace judges None → (t : TypeName) → (at judges t).held.changes ≤ length trace
judged_room trace judges judged t = omega (arith, few_changes (is_left (reverse trace)) t (reverse trace) (at judges t) (judged.1 t), length-reverse trace)

-- a checker that has taken one line more
pub taken_more : (lines : List Line) (l : Line) (old new : Checker) → HasTaken lines old → old.taken < most_lines → new.taken ≡ old.taken + 1 → new.order ≡ kept_after old.order l
    → IsJudged (lines ++ l ∷ []) new.judges new.broken → HasTaken (lines ++ l ∷ []) new
taken_more lines l old new h room count order judged = record {
  count = omega (arith, h.count, count, length-append lines (l ∷ []));
  few = omega (arith, room, count);
  order =
      subst (λ (e : List Line). IsOrderOf e new.order) (sym (reverse-append lines (l ∷ []))) (subst (λ (k : OrderKept). IsOrderOf (l ∷ reverse lines) k) (sym order) (order_after (reverse lines) old.order l h.order));
  judged = judged;
}

pub may_come : (lines : List Line) (l : Line) (c : Checker) (may : Bool) → HasTaken lines c → may ≡ may_follow_in c.order l → may ≡ true → may_follow (reverse lines) l ≡ true
may_come lines l c may h is yes_so = sym (follows_same (reverse lines) c.order l h.order) ∙ sym is ∙ yes_so

judged_none : (judges : PerType JudgeKept) → judges ≡ each nothing_judged → IsJudged [] judges None
judged_none judges is = (tt, all_first (is_left []) judges is)

pub taken_none : (c : Checker) → c.order ≡ nothing_kept → c.judges ≡ each nothing_judged → c.broken ≡ None → c.taken ≡ 0 → HasTaken [] c
taken_none c order judges broken count = record {
  count = count;
  few = omega (arith, count);
  order = subst (IsOrderOf []) (sym order) nothing_yet;
  judged = subst (IsJudged [] c.judges) (sym broken) (judged_none c.judges judges);
}
