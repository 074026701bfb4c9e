use Rattle.xds_monitor.proofs.Responding.{responds}
use Rattle.xds_monitor.proofs.response.response_at.Goals as goal

pub returns : goal.returns
returns g c = responds g.A.Posts.calls g.A.Posts.replica c.args.path.now c.args.body.now c.answer.result c.answer.ensures
