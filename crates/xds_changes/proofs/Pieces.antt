-- The pieces of a text between marks, if there is a text.
use Rattle.std.proofs.Common.{◌≡◌, arith, ℕ, List, [], ◌∷◌, length, Bool, true, false, Bor, Option, Some, None, refl, ap, sym, ◌∙◌}
use Rattle.std.specs.Prelude.{◌==◌, not, is_some}
use Rattle.std.specs.Option.{option_map}
use Rattle.std.proofs.lemmas.List.Splits.{length-slice_split}
use Rattle.xds_script.specs.Lines.{pieces}
use Rattle.xds_script.specs.Words.{is_empty}
use Rattle.xds_changes.specs.MarkTexts.{pieces_in}

some_by : (mark : ℕ) (text : List ℕ) (ps : List (List ℕ)) → pieces mark text ≡ ps → false ≡ is_empty ps
some_by mark text [] is = absurd (omega (arith, ap length (sym is) ∙ length-slice_split (λ b. b == mark) text))
some_by mark text (p ∷ ps) is = refl

-- there are no pieces where there is no text
pub is_none-pieces_in : (mark : ℕ) (text : Option (Bor (List ℕ))) (r : Bool) → is_some text ≡ not r → r ≡ is_empty (pieces_in mark (option_map (λ s. s.now) text))
is_none-pieces_in mark None true e = refl
is_none-pieces_in mark None false e = cc
is_none-pieces_in mark (Some text) true e = cc
is_none-pieces_in mark (Some text) false e = some_by mark text.now _ refl
