use Rattle.std.proofs.Common.{sym, subst, ◌∙◌}
use Rattle.xds_core.specs.Events as events
use Rattle.xds_world.specs.Worlds.{at_site}
use Rattle.xds_world.specs.Calls.{Gave}
use Rattle.xds_world.proofs.Steps.{poll_within}
use Rattle.xds_world.proofs.state.State.poll.Goals as goal

pub returns-in-Some-2-clause-ok : goal.returns-in-Some-2-clause-ok
returns-in-Some-2-clause-ok g c =
    let w = c.args.self.now in
    let w1 = c.poll_at.new.self in
    let r = c.in-Some.replica in
    let n = c.in-Some.stream in
    let gave = subst (λ o. Gave events.Polled w o w1 (at_site w r (events.Poll n c.args.which))) c.in-Some-2.is c.in_ok-response.ensures.ok in
    poll_within g.A.Accept.accepts w w1 c.respond.new.self c.args.client r n c.args.which c.in-Some-2.response (sym c.in-Some.is ∙ c.link_of.ensures) gave c.respond.result c.respond.ensures.ok
