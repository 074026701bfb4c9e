use Rattle.std.proofs.Common.{◌≡◌, sym, subst, ◌∙◌}
use Rattle.std.specs.Prelude.{IfErr}
use Rattle.xds_resource.specs.Refusals.{Gives}
use Rattle.xds_resource.specs.declared.refusal.Refusal.TheVariants.{OutOfMemory}
use Rattle.xds_events.specs.Events as events
use Rattle.xds_events.specs.Seen.{event_of, reply_of}
use Rattle.xds_events.specs.Steps.{step}
use Rattle.xds_events.specs.Twice.{IsShortBeside}
use Rattle.xds_core.proofs.Twins.{poll_is}
use Rattle.xds_core.proofs.replica.Core.step_twice.Goals as goal

pub returns-in-Some-clause-steps : goal.returns-in-Some-clause-steps
returns-in-Some-clause-steps c =
    let is : event_of c.args.event.now ≡ events.Poll c.in-Some.number c.in-Some.which = poll_is (event_of c.args.event.now) c.in-Some.number c.in-Some.which (sym c.in-Some.is ∙ c.poll.ensures) in
    subst (λ e. Gives (λ p. (reply_of p.0, c.poll_twice.new.self)) c.poll_twice.result (step c.args.self.now e)) (sym is) c.poll_twice.ensures.steps

pub returns-in-Some-clause-memory : goal.returns-in-Some-clause-memory
returns-in-Some-clause-memory c =
    let is : event_of c.args.event.now ≡ events.Poll c.in-Some.number c.in-Some.which = poll_is (event_of c.args.event.now) c.in-Some.number c.in-Some.which (sym c.in-Some.is ∙ c.poll.ensures) in
    subst (λ e. IfErr c.poll_twice.result (λ x. x ≡ OutOfMemory → IsShortBeside c.args.self.now e)) (sym is) c.poll_twice.ensures.memory
