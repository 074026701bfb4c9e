use Rattle.std.proofs.Common.{◌≡◌, ◌∙◌, sym, subst, ap, Some}
use Rattle.std.proofs.lemmas.Result.{on_ok_weaker}
use Rattle.xds_cases.specs.Texts.{Text}
use Rattle.xds_cases.specs.Scripts.{parts_of}
use Rattle.xds_cases.proofs.Cutting.{cut_at}
use Rattle.xds_cases.proofs.CasesRead.{case_read, was_there}
use Rattle.xds_cases.proofs.scripts.follow_line.Goals as goal

pub returns : goal.returns
returns g c =
    let P : Text → Text → Type 0 = λ step told. g.S.Script.may_answer c.args.script.now (parts_of step).0 (parts_of step).1 told c.answer.new.script in
    on_ok_weaker c.same.result
    (λ (e : c.as_str-2.result.now ≡ c.in_ok-step.wanted.now).
    case_read (λ (p : Text × Text). P p.0 p.1) c.args.line.now c.as_str.result.now c.in_ok-step.step.now c.in_ok-step.wanted.now
    (was_there _ _ _ c.in_ok-line.ensures ∙ ap Some (sym c.as_str.ensures.value))
    (cut_at c.cut.result _ _ c.in_ok-step.ensures.ok_part c.cut.ensures)
    (subst (P c.in_ok-step.step.now) (sym c.as_str-2.ensures.value ∙ e) c.in_ok-found.ensures))
    c.same.ensures
