use Rattle.std.proofs.Common.{sym, subst, ◌∙◌}
use Rattle.xds_core.specs.Events as events
use Rattle.xds_world.specs.Worlds.{at_site}
use Rattle.xds_world.specs.Calls.{Gave}
use Rattle.xds_world.proofs.Steps.{connect_within}
use Rattle.xds_world.proofs.state.State.connect.Goals as goal

pub returns-in-Some-clause-ok : goal.returns-in-Some-clause-ok
returns-in-Some-clause-ok g c =
    let w = c.args.self.now in
    let w1 = c.open_at.new.self in
    let r = c.args.replica in
    let gave = subst (λ o. Gave events.Opened w o w1 (at_site w r events.Open)) c.in-Some.is c.in_ok-stream.ensures.ok in
    connect_within g.A.Accept.accepts w w1 c.connect_link.new.self c.args.client r c.in-Some.stream (sym c.if-not-may_connect.false ∙ c.may_connect.ensures) gave c.connect_link.result c.connect_link.ensures.ok
