-- The reader of decimals misses no number, so a word that it refuses spells none.
use Rattle.std.proofs.Common.{◌≡◌, Some, sym, ◌∙◌, arith}
use Rattle.xds_script.proofs.ShortNumbers.{number_in-decimal, number_in-none}
use Rattle.xds_changes.proofs.marking.number_within.Goals as goal

pub returns-in_err-number : goal.returns-in_err-number
returns-in_err-number c =
    let missing = c.in_err-number.was in
    c.from_residual.ensures
    ∙ sym (number_in-none c.args.least c.args.most c.args.word.now (λ n e from to. let there : c.decimal_number.result ≡ Some n = c.decimal_number.ensures.all n (omega (arith, to)) e in cc))

pub returns : goal.returns
returns c = sym (number_in-decimal c.args.least c.args.most c.in_ok-number.number c.args.word.now c.in_ok-number.ensures.shortest.1 c.in_ok-number.ensures.shortest.0 (omega arith) (omega arith))
