use Rattle.xds_core.specs.Seen.{reply_of}
use Rattle.xds_world.proofs.Steps.{snapshot_read}
use Rattle.xds_world.proofs.state.State.snapshot_at.Goals as goal

pub returns-clause-ok : goal.returns-clause-ok
returns-clause-ok g c = snapshot_read reply_of c.args.self.now c.at_site.new.self c.args.replica c.in_ok-reply.reply c.batch_in.result c.batch_in.ensures c.in_ok-reply.ensures.ok
