use Rattle.xds_node.proofs.Covers.{names_cover}
use Rattle.xds_node.proofs.node.concern.Concern.has_names_of.Goals as goal

pub returns-else-includes : goal.returns-else-includes
returns-else-includes c = names_cover c.args.self.now c.args.more.now c.has_all.result c.has_all.ensures
