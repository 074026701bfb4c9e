-- A script that is told step by step.
use Rattle.std.proofs.Common.{◌≡◌, List, [], ◌∷◌, ◌++◌, refl, ap, subst, ◌∙◌, codes}
use Rattle.std.specs.Prelude.{Option, Some, None, Result, Ok, Err, IfOk, unwrap_or}
use Rattle.std.specs.Option.{option_map}
use Rattle.std.specs.Borrow.{Bor}
use Rattle.xds_resource.specs.declared.refusal.Refusal.{Refusal}
use Rattle.xds_resource.specs.Refusals.{Gives}
use Rattle.xds_cases.specs.Texts.{Text, around}
use Rattle.xds_cases.specs.Scripts.{Answers, parts_of, IsAnswered, AreAnswered}

-- one line more, behind others
pub answered_more : {S : Type 0} (may_answer : Answers S) (start now next : S) (ls : List Text) (line : Text) → AreAnswered may_answer start ls now
    → IsAnswered may_answer now line next → AreAnswered may_answer start (ls ++ line ∷ []) next
answered_more may_answer start now next [] line h a = (next, subst (λ s. IsAnswered may_answer s line next) h a, refl)
answered_more may_answer start now next (l ∷ ls) line h a = (h.0, h.1, answered_more may_answer h.0 now next ls line h.2 a)

-- the parts of a step, as they are cut
pub parts_cut : (r : Option (Bor Text × Bor Text)) (p d : Bor Text × Bor Text) (step : Text) → p ≡ unwrap_or r d → d.0.now ≡ step → d.1.now ≡ []
    → option_map (λ q. (q.0.now, q.1.now)) r ≡ around (codes " ") step → (p.0.now, p.1.now) ≡ parts_of step
parts_cut None p d step is whole none cut =
    (λ i. ((is i).0.now, (is i).1.now)) ∙ (λ i. (whole i, none i)) ∙ ap (λ (o : Option (Text × Text)). unwrap_or o (step, [])) cut
parts_cut (Some q) p d step is whole none cut =
    (λ i. ((is i).0.now, (is i).1.now)) ∙ ap (λ (o : Option (Text × Text)). unwrap_or o (step, [])) cut

-- what is told of an answer, where it is told
pub answer_told : {S X : Type 0} (may_answer : Answers S) (view : X → Text) (before after : S) (verb rest step x : Text) (r : Result X Refusal) → (verb, rest) ≡ parts_of step
    → may_answer before verb rest x after → Gives view r (Ok x) → IfOk r (λ t. may_answer before (parts_of step).0 (parts_of step).1 (view t) after)
answer_told may_answer view before after verb rest step x (Err e) parts a h = tt
answer_told may_answer view before after verb rest step x (Ok t) parts a h =
    let is : x ≡ view t = cc in
    subst (λ (p : Text × Text). may_answer before p.0 p.1 (view t) after) parts (subst (λ y. may_answer before verb rest y after) is a)
