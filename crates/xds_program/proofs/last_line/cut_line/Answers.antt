use Rattle.std.proofs.Common.{◌≡◌, ◌-◌, ◌+◌, ◌∷◌, ◌++◌, ℕ, List, suc, length, take, drop, ap, ◌∙◌, sym, arith, add-one, length-drop}
use Rattle.std.proofs.lemmas.List.{take_all}
use Rattle.xds_check.proofs.Traces.{one_line-take, one_line-all, split_there}
use Rattle.xds_program.proofs.last_line.cut_line.Goals as goal

whole_rest : (bs : List ℕ) (i : ℕ) → drop (suc i) bs ≡ take (length bs - (i + 1)) (drop (i + 1) bs)
whole_rest bs i = rw add-one (sym (take_all (length bs - suc i) (drop (suc i) bs) (omega (arith, length-drop (suc i) bs))))

pub returns-then-b-eq10-clause-split : goal.returns-then-b-eq10-clause-split
returns-then-b-eq10-clause-split c =
    let bs = c.args.bytes.now in
    let i = c.loop-i.i in
    (split_there bs i c.loop-i-test.true c.if-b-eq10.true ∙ ap (λ (rest : List ℕ). take i bs ++ 10 ∷ rest) (whole_rest bs i), one_line-take bs i c.loop-i.invariant)

pub returns-clause-last : goal.returns-clause-last
returns-clause-last c = one_line-all c.args.bytes.now (λ k below. c.loop-i.invariant k (omega arith))
