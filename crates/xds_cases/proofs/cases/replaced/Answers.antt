use Rattle.std.proofs.Common.{◌≡◌, ◌<◌, ◌∙◌, ℕ, List, length, refl, arith, ap, sym, Ok}
use Rattle.std.proofs.lemmas.List.{nil_from_length}
use Rattle.std.proofs.lemmas.Bool.Decides.{nat_tests}
use Rattle.xds_cases.specs.Texts.{replaced}
use Rattle.xds_cases.proofs.Cutting.{replaced-by, replaced-empty}
use Rattle.xds_cases.proofs.cases.replaced.Goals as goal

pub returns-then-is_empty : goal.returns-then-is_empty
returns-then-is_empty c =
    let none : length c.args.word.now ≡ 0 = grind (arith, nat_tests) in
    ap Ok (sym (c.in_ok-from_str.ensures.ok ∙ replaced-empty c.args.by.now c.args.text.now ∙ ap (λ (w : List ℕ). replaced w c.args.by.now c.args.text.now) (sym (nil_from_length c.args.word.now none))))

pub returns : goal.returns
returns c =
    let some : 0 < length c.args.word.now = grind (arith, nat_tests) in
    ap Ok (sym (replaced-by c.args.word.now c.args.by.now c.args.text.now _ c.args.word some refl c.in_ok-replace.ensures.ok))
