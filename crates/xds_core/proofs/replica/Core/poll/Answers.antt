use Rattle.std.proofs.Common.{◌≡◌, sym, subst}
use Rattle.std.specs.Prelude.{IfErr, OnErr}
use Rattle.xds_resource.specs.Refusals.{Gives}
use Rattle.xds_resource.specs.declared.refusal.Refusal.TheVariants.{OutOfMemory}
use Rattle.xds_events.specs.Events as events
use Rattle.xds_events.specs.Legal.{IsShort}
use Rattle.xds_events.specs.Seen.{reply_of}
use Rattle.xds_events.specs.Steps.{step}
use Rattle.xds_events.specs.declared.event.Reply.TheVariants as replies
use Rattle.xds_core.proofs.Twins.{done_short, done_kept}
use Rattle.xds_core.proofs.replica.Core.poll.Goals as goal

pub returns-clause-steps : goal.returns-clause-steps
returns-clause-steps c = subst (λ x. Gives (λ r. (reply_of r, c.poll_stream-drafts.new.self)) x (step c.args.self.now (events.Poll c.args.number c.args.which))) (sym c.polled.ensures) c.poll_stream-drafts.ensures.steps

pub returns-clause-memory : goal.returns-clause-memory
returns-clause-memory c =
    subst (λ x. IfErr x (λ e. e ≡ OutOfMemory → IsShort c.args.self.now (events.Poll c.args.number c.args.which))) (sym c.polled.ensures)
    (done_short replies.Polled (λ e. e ≡ OutOfMemory → IsShort c.args.self.now (events.Poll c.args.number c.args.which)) c.poll_stream-drafts.result c.poll_stream-drafts.ensures.memory)

pub returns-clause-err : goal.returns-clause-err
returns-clause-err c =
    subst (λ x. OnErr x (c.poll_stream-drafts.new.self ≡ c.args.self.now)) (sym c.polled.ensures) (done_kept replies.Polled (c.poll_stream-drafts.new.self ≡ c.args.self.now) c.poll_stream-drafts.result c.poll_stream-drafts.ensures.err)
