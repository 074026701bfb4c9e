use Rattle.std.proofs.Common.{Bool, sym, ap, subst, ◌∙◌}
use Rattle.std.specs.Prelude.{option_map}
use Rattle.xds_core.specs.Events as events
use Rattle.xds_core.specs.Seen.{message_of}
use Rattle.xds_world.specs.Worlds.{happened_at}
use Rattle.xds_world.specs.Calls.{Happened}
use Rattle.xds_world.proofs.Steps.{up_done}
use Rattle.xds_world.proofs.state.State.up.Goals as goal

pub returns-clause-ok : goal.returns-clause-ok
returns-clause-ok g c =
    let w = c.args.self.now in
    let w1 = c.happened_at.new.self in
    let r = c.in-Some.replica in
    let n = c.in-Some.stream in
    let m = message_of c.in-Some-2.request in
    let done = subst (λ (b : Bool). Happened w b w1 (happened_at w r (events.Request n m))) c.if-not-branch.false c.in_ok-happened_at.ensures.ok in
    up_done g.A.Accept.accepts w w1 c.drop_request.new.self c.args.client r n m c.drop_request.result (sym c.in-Some.is ∙ c.link_of.ensures) (sym (ap (option_map message_of) c.in-Some-2.is) ∙ c.in_ok-request.ensures.ok) done c.drop_request.ensures
