use Rattle.std.proofs.Common.{◌≡◌, ◌-◌, ◌+◌, ◌∷◌, ℕ, List, suc, length, take, drop, ap, ◌∙◌, sym, subst, arith, add-one, length-drop}
use Rattle.std.proofs.lemmas.Bool.{eq-eqb, eqb-true}
use Rattle.std.proofs.lemmas.List.{take_all}
use Rattle.memchr.specs.Find.{IsFirstByte, is_byte}
use Rattle.xds_script.specs.Lines.{feed, pieces}
use Rattle.xds_script.proofs.Splits.{pieces-at_mark, pieces-no_mark}
use Rattle.xds_script.proofs.lines.split_line.Goals as goal

whole_rest : (bs : List ℕ) (i : ℕ) → drop (suc i) bs ≡ take (length bs - (i + 1)) (drop (i + 1) bs)
whole_rest bs i = rw add-one (sym (take_all (length bs - suc i) (drop (suc i) bs) (omega (arith, length-drop (suc i) bs))))

pub returns-clause-split : goal.returns-clause-split
returns-clause-split c =
    let bs = c.args.bytes.now in
    let i = c.in-Some.i in
    let first = subst (λ r. IsFirstByte (is_byte 10) bs r) c.in-Some.is c.memchr.ensures in
    pieces-at_mark feed bs i first.0.high (eqb-true _ _ first.1) (λ k below is. first.0.before k (omega arith) below (eq-eqb _ _ is)) ∙ ap (λ (rest : List ℕ). take i bs ∷ pieces feed rest) (whole_rest bs i)

pub returns-in_default-clause-last : goal.returns-in_default-clause-last
returns-in_default-clause-last c =
    let bs = c.args.bytes.now in
    let none = subst (λ r. IsFirstByte (is_byte 10) bs r) c.in_default.is c.memchr.ensures in
    pieces-no_mark feed bs (λ k below is. none k (omega arith) below (eq-eqb _ _ is))
