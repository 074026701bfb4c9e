-- The reader of decimals misses no number, so a word that it refuses spells none.
use Rattle.std.proofs.Common.{◌≡◌, Some, sym, ◌∙◌, arith}
use Rattle.xds_script.proofs.ShortNumbers.{number_in-decimal, number_in-none}
use Rattle.xds_script.proofs.numbers.number_to.Goals as goal

pub returns-in_err-number : goal.returns-in_err-number
returns-in_err-number c =
    let missing = c.in_err-number.was in
    c.from_residual.ensures
    ∙ sym (number_in-none 1 c.args.most c.args.word.now (λ n e from to. let there : c.decimal_number.result ≡ Some n = c.decimal_number.ensures.all n (omega (arith, to)) e in cc))

pub returns-then-number-eq0 : goal.returns-then-number-eq0
returns-then-number-eq0 c =
    let was = c.in_ok-number.was in
    sym (number_in-none 1 c.args.most c.args.word.now
    (λ n e from to.
    let there : c.decimal_number.result ≡ Some n = c.decimal_number.ensures.all n (omega (arith, to)) e in
    let same : c.in_ok-number.number ≡ n = cc in
    omega (arith, same, from, to, c.then-number-eq0.either)))

pub returns : goal.returns
returns c = sym (number_in-decimal 1 c.args.most c.in_ok-number.number c.args.word.now c.in_ok-number.ensures.shortest.1 c.in_ok-number.ensures.shortest.0 (omega arith) (omega arith))
