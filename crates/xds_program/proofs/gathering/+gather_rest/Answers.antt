use Rattle.std.proofs.Common.{List, ℕ, drop, ap, sym, ◌∙◌, subst}
use Rattle.std.proofs.lemmas.Result.{IfOk-weaker, IfErr-weaker}
use Rattle.xds_resource.specs.PerType.{at}
use Rattle.xds_program.specs.Gathered.{IsReadTo}
use Rattle.xds_program.proofs.Reading.{behind_again}
use Rattle.xds_program.proofs.gathering.+gather_rest.Goals as goal

pub returns-then-taken-enough-clause-gathered : goal.returns-then-taken-enough-clause-gathered
returns-then-taken-enough-clause-gathered t c =
    let after = c.take_lines.new.reading in
    let same = behind_again c.args.rest.items c.as_slice.result.now c.as_slice-then-taken-enough.result.now c.in-Ok.taken c.as_slice.ensures.value c.as_slice-then-taken-enough.ensures.value in
    IfOk-weaker c.finish.result _ _ (λ g all input r.
    let before = subst (λ (l : List ℕ). IsReadTo input l c.args.reading.line (at c.args.reading.catalogues)) (sym c.as_slice.ensures.value) r in
    all input (subst (λ (l : List ℕ). IsReadTo input l after.line (at after.catalogues)) same (c.in-Ok.ensures.taken input before))) c.finish.ensures.gathered

pub returns-then-taken-enough-clause-refused : goal.returns-then-taken-enough-clause-refused
returns-then-taken-enough-clause-refused t c =
    let after = c.take_lines.new.reading in
    let same = behind_again c.args.rest.items c.as_slice.result.now c.as_slice-then-taken-enough.result.now c.in-Ok.taken c.as_slice.ensures.value c.as_slice-then-taken-enough.ensures.value in
    IfErr-weaker c.finish.result _ _ (λ fault all input r.
    let before = subst (λ (l : List ℕ). IsReadTo input l c.args.reading.line (at c.args.reading.catalogues)) (sym c.as_slice.ensures.value) r in
    all input (subst (λ (l : List ℕ). IsReadTo input l after.line (at after.catalogues)) same (c.in-Ok.ensures.taken input before))) c.finish.ensures.refused

pub returns-else-taken-enough-clause-gathered : goal.returns-else-taken-enough-clause-gathered
returns-else-taken-enough-clause-gathered t c =
    let after = c.take_lines.new.reading in
    let same = ap (drop c.in-Ok.taken) c.as_slice.ensures.value ∙ sym c.without_front.ensures in
    IfOk-weaker c.gather_rest.result _ _ (λ g all input r.
    let before = subst (λ (l : List ℕ). IsReadTo input l c.args.reading.line (at c.args.reading.catalogues)) (sym c.as_slice.ensures.value) r in
    all input (subst (λ (l : List ℕ). IsReadTo input l after.line (at after.catalogues)) same (c.in-Ok.ensures.taken input before))) c.gather_rest.ensures.gathered

pub returns-else-taken-enough-clause-refused : goal.returns-else-taken-enough-clause-refused
returns-else-taken-enough-clause-refused t c =
    let after = c.take_lines.new.reading in
    let same = ap (drop c.in-Ok.taken) c.as_slice.ensures.value ∙ sym c.without_front.ensures in
    IfErr-weaker c.gather_rest.result _ _ (λ fault all input r.
    let before = subst (λ (l : List ℕ). IsReadTo input l c.args.reading.line (at c.args.reading.catalogues)) (sym c.as_slice.ensures.value) r in
    all input (subst (λ (l : List ℕ). IsReadTo input l after.line (at after.catalogues)) same (c.in-Ok.ensures.taken input before))) c.gather_rest.ensures.refused
