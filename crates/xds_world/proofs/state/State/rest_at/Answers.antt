use Rattle.std.proofs.Common.{◌≡◌, map, ap, subst, ◌∙◌}
use Rattle.std.specs.Prelude.{string_bytes}
use Rattle.xds_core.specs.Events as events
use Rattle.xds_core.specs.Events.{Event}
use Rattle.xds_core.specs.Seen.{reply_of}
use Rattle.xds_core.specs.Streams.{cluster_in}
use Rattle.xds_world.specs.Worlds.{at_site, poll_event}
use Rattle.xds_world.specs.Calls.{Gave}
use Rattle.xds_world.proofs.Polls.{rest_read}
use Rattle.xds_world.proofs.state.State.rest_at.Goals as goal

-- the event that is made of the parts of the request is the one that the poll is
pub returns-clause-ok : goal.returns-clause-ok
returns-clause-ok g c =
    let w = c.args.self.now in
    let r = c.args.replica in
    let t = c.args.kind in
    let told = c.into_poll-version.ensures in
    let parts = c.into_poll-version.result in
    let same : events.Rest t (map string_bytes parts.1.items) (string_bytes parts.0) (string_bytes c.cluster_of-cluster.result) ≡ poll_event t c.args.request =
    ap (λ cluster. events.Rest t (map string_bytes parts.1.items) (string_bytes parts.0) cluster) (c.cluster_of-cluster.ensures ∙ ap cluster_in told.node) ∙ (λ i. events.Rest t (told.names i) (told.version i) (cluster_in c.args.request.node)) in
    let gave = subst (λ (e : Event). Gave reply_of w c.in_ok-reply.reply c.at_site.new.self (at_site w r e)) same c.in_ok-reply.ensures.ok in
    rest_read reply_of w c.at_site.new.self r t c.args.request c.in_ok-reply.reply c.rested_in.result c.rested_in.ensures gave
