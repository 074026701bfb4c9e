-- The text of a number that fits is read as that number, so `parse` does not fail there, and the digits are the text's.
use Rattle.std.proofs.Common.{arith, ◌≡◌, Some, true, nat_eq, ◌∙◌, sym}
use Rattle.std.specs.Cmp.Lexicographic.{nat_list_eq_equiv, pointwise}
use Rattle.std.proofs.lemmas.Fmt.{parse-decimal}
use Rattle.xds_resource.proofs.decimal.decimal_number.Goals as goal

pub returns-in_err-number-clause-all : goal.returns-in_err-number-clause-all
returns-in_err-number-clause-all c = λ n small e.
    let read = parse-decimal 64 n c.args.text.now _ small (omega arith) e c.parse.ensures.value.0 in
    let there : c.ok.result ≡ Some n = rw read at c.ok.ensures.value in
    let missing = c.in_err-number.was in
    cc

pub returns-then-eq-clause-all : goal.returns-then-eq-clause-all
returns-then-eq-clause-all c = λ n small e.
    let read = parse-decimal 64 n c.args.text.now _ small (omega arith) e c.parse.ensures.value.0 in
    let there : c.ok.result ≡ Some n = rw read at c.ok.ensures.value in
    let was = c.in_ok-number.was in
    cc

pub returns-else-eq-clause-all : goal.returns-else-eq-clause-all
returns-else-eq-clause-all c = λ n small e.
    let read = parse-decimal 64 n c.args.text.now _ small (omega arith) e c.parse.ensures.value.0 in
    let there : c.ok.result ≡ Some n = rw read at c.ok.ensures.value in
    let was = c.in_ok-number.was in
    let same : c.in_ok-number.number ≡ n = cc in
    let printed : c.format.result.now ≡ c.args.text.now = rw same at c.format.ensures.text ∙ sym e in
    let equal : pointwise nat_eq c.format.result.now c.args.text.now ≡ true = rw printed (nat_list_eq_equiv.refl c.args.text.now) in
    let differs = c.if-eq.ensures in
    cc
