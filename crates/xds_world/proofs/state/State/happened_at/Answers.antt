use Rattle.xds_core.specs.Seen.{event_of, reply_of}
use Rattle.xds_world.proofs.Steps.{site_happened}
use Rattle.xds_world.proofs.state.State.happened_at.Goals as goal

pub returns-clause-ok : goal.returns-clause-ok
returns-clause-ok g c = site_happened reply_of c.args.self.now c.at_site.new.self c.args.replica (event_of c.args.event) c.in_ok-reply.reply c.is_there.result c.is_there.ensures c.in_ok-reply.ensures.ok
