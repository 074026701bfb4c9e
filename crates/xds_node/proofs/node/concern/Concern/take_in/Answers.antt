use Rattle.xds_node.proofs.Covers.{both_cover}
use Rattle.xds_node.proofs.node.concern.Concern.take_in.Goals as goal

pub returns-else-len-most-clause-covered : goal.returns-else-len-most-clause-covered
returns-else-len-most-clause-covered c t name either =
    both_cover c.args.self.now c.args.more.now c.joined-self.result c.joined-self-2.result c.unite-has_room.new.self t name c.joined-self.ensures c.joined-self-2.ensures c.if-not-has_room.ensures either
