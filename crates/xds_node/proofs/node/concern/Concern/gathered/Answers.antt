use Rattle.xds_node.proofs.Covers.{gathered_covers}
use Rattle.xds_node.proofs.node.concern.Concern.gathered.Goals as goal

pub returns-clause-covered : goal.returns-clause-covered
returns-clause-covered c t name of_type gathered = gathered_covers c.args.types c.if_all.result c.of.result c.args.gathered t name c.if_all.ensures c.of.ensures of_type gathered
