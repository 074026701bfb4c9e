use Rattle.std.proofs.Common.{true, sym, subst, ◌∙◌}
use Rattle.std.specs.Prelude.{IfOk}
use Rattle.xds_core.specs.Events as events
use Rattle.xds_script.specs.declared.event.AnswerFate.{AnswerFate}
use Rattle.xds_script.specs.Happenings as happenings
use Rattle.xds_world.specs.Worlds.{at_site, poll_event, happens}
use Rattle.xds_world.specs.Calls.{Gave, Happened}
use Rattle.xds_world.proofs.Polls.{rest_within, rest_lost}
use Rattle.xds_world.proofs.state.State.rest_poll.Goals as goal

pub returns-in-Arrives-clause-ok : goal.returns-in-Arrives-clause-ok
returns-in-Arrives-clause-ok g c =
    let w = c.args.self.now in
    let w1 = c.rest_at.new.self in
    let n = c.args.client in
    let r = c.args.replica in
    let t = c.args.kind in
    let q = c.in-Some.request in
    let asks = sym c.in-Some.is ∙ c.in_ok-request.ensures.ok in
    let gave = subst (λ o. Gave events.Rested w o w1 (at_site w r (poll_event t q))) c.in-Some-2.is c.in_ok-answer.ensures.ok in
    subst (λ (fate : AnswerFate). IfOk c.answer.result (λ b. Happened w b c.answer.new.self (happens g.A.Accept.accepts w (happenings.RestPoll n r t fate)))) (sym c.in-Arrives.is)
    (rest_within g.A.Accept.accepts w w1 c.answer.new.self n r t q c.in-Some-2.answer asks gave c.answer.result c.answer.ensures.ok)

pub returns-in-Lost-clause-ok : goal.returns-in-Lost-clause-ok
returns-in-Lost-clause-ok g c =
    let w = c.args.self.now in
    let w1 = c.rest_at.new.self in
    let n = c.args.client in
    let r = c.args.replica in
    let t = c.args.kind in
    let q = c.in-Some.request in
    let asks = sym c.in-Some.is ∙ c.in_ok-request.ensures.ok in
    let gave = subst (λ o. Gave events.Rested w o w1 (at_site w r (poll_event t q))) c.in-Some-2.is c.in_ok-answer.ensures.ok in
    subst (λ (fate : AnswerFate). Happened w true w1 (happens g.A.Accept.accepts w (happenings.RestPoll n r t fate))) (sym c.in-Lost.is)
    (rest_lost g.A.Accept.accepts w w1 n r t q c.in-Some-2.answer asks gave)
