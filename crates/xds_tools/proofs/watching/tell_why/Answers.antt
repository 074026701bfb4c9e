use Rattle.std.proofs.Common.{rules, ◌∙◌, ap, sym}
use Rattle.xds_program.specs.Tasks.{Watch}
use Rattle.xds_tools.proofs.GivingUp.{ends_http, ends_late, ends_refused}
use Rattle.xds_tools.proofs.watching.tell_why.Goals as goal

pub returns-then-eq : goal.returns-then-eq
returns-then-eq g c = ends_http c.args.task.now c.args.refusal c.tell_http.result _ (search rules) c.tell_http.ensures.told c.tell_http.ensures.status

pub returns-in-Some : goal.returns-in-Some
returns-in-Some g c =
    ends_late c.args.task.now c.args.refusal c.tell_late.result _ _ (sym (ap (λ (t : Watch). t.seconds) c.task.view_is) ∙ c.in-Some.ensures.0) c.in-Some.ensures.1 c.tell_late.ensures.told c.tell_late.ensures.status

pub returns-in-None : goal.returns-in-None
returns-in-None g c = ends_refused c.args.task.now c.args.refusal c.tell_refusal.result _ c.tell_refusal.ensures.told c.tell_refusal.ensures.status
