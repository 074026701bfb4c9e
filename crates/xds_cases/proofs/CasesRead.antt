-- A line that is read as a case.
use Rattle.std.proofs.Common.{◌≡◌, sym, ap, subst, ◌∙◌, codes}
use Rattle.std.specs.Prelude.{Option, Some, None, Result, Ok, ok_or, option_and_then, IsSomeAnd}
use Rattle.xds_cases.specs.Texts.{Text, around}
use Rattle.xds_cases.specs.Cases.{written_out, case_of}

-- what is known of what the line gives and wants is known of the line
pub case_read : (P : Text × Text → Type 0) (line whole given wanted : Text) → written_out line ≡ Some whole → Some (given, wanted) ≡ around (codes " => ") whole
    → P (given, wanted) → IsSomeAnd (case_of line) P
unfolding case_of
case_read P line whole given wanted out cut h =
    subst (λ o. IsSomeAnd o P) (cut ∙ ap (option_and_then (around (codes " => "))) (sym out)) h

-- an answer of what is there
pub was_there : {E : Type 0} (o : Option Text) (e : E) (x : Text) → ok_or o e ≡ Ok x → o ≡ Some x
was_there None e x h = cc
was_there (Some y) e x h = let is : y ≡ x = cc in ap Some is

-- what two answers hold that are the same
pub ok_same : {E : Type 0} (x y : Text) → ◌≡◌ {A = Result Text E} (Ok x) (Ok y) → x ≡ y
ok_same x y e = cc
