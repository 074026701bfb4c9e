use Rattle.xds_core.specs.Seen.{reply_of}
use Rattle.xds_world.proofs.Steps.{poll_read}
use Rattle.xds_world.proofs.state.State.poll_at.Goals as goal

pub returns-clause-ok : goal.returns-clause-ok
returns-clause-ok g c = poll_read reply_of c.args.self.now c.at_site.new.self c.args.replica c.args.stream c.args.which c.in_ok-reply.reply c.draft_in.result c.draft_in.ensures c.in_ok-reply.ensures.ok
