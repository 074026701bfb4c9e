use Rattle.std.proofs.Common.{All, ◌≡◌, ◌∙◌, List, ℕ, subst, sym}
use Rattle.std.specs.Str.Lines.{lines}
use Rattle.std.proofs.lemmas.List.Elements.{All-map}
use Rattle.std.proofs.lemmas.Iterator.Splits.{YieldsList-from_lines}
use Rattle.std.proofs.lemmas.Iterator.Consumers.{YieldsList-end}
use Rattle.xds_cases.specs.Cases.{unfolded, Holds}
use Rattle.xds_cases.proofs.CasesRead.{ok_same}
use Rattle.xds_cases.proofs.cases.hold.Goals as goal

pub returns : goal.returns
returns g c =
    let Right = Holds g.O.Outcome.may_make in
    let whole : c.as_str.result.now ≡ unfolded c.args.cases.now = c.as_str.ensures.value ∙ sym (ok_same _ _ c.in_ok-whole.ensures) in
    let end = YieldsList-end (YieldsList-from_lines c.as_str.result.now (cc)) c.loop-case.yielded _ c.loop-case.yielded_by _ _ c.in-None.is c.next.ensures.steps in
    subst (λ (t : List ℕ). All Right (lines t)) whole (subst (All Right) end.0 (All-map Right (λ x. x.now) c.loop-case.yielded c.loop-case.invariant))
