use Rattle.xds_core.specs.Seen.{reply_of}
use Rattle.xds_world.proofs.Steps.{open_read}
use Rattle.xds_world.proofs.state.State.open_at.Goals as goal

pub returns-clause-ok : goal.returns-clause-ok
returns-clause-ok g c = open_read reply_of c.args.self.now c.at_site.new.self c.args.replica c.in_ok-reply.reply c.stream_in.result c.stream_in.ensures c.in_ok-reply.ensures.ok
