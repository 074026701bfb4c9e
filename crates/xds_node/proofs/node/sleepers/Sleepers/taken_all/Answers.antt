use Rattle.xds_node.specs.Sleeping.{left_in}
use Rattle.xds_node.proofs.Woken.{changed_more}
use Rattle.xds_node.proofs.node.sleepers.Sleepers.taken_all.Goals as goal

pub loop-slot-preserved : goal.loop-slot-preserved
loop-slot-preserved c =
    changed_more (left_in c.args.written.now) c.deref_mut-slot-items.result.now c.loop-slot.slot-items c.loop-slot.slot-index c.slot-item.result c.look.new.self c.loop-slot-test.true
    c.loop-slot.invariant c.look.ensures
