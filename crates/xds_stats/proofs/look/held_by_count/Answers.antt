use Rattle.xds_stats.proofs.Counting.{count_more, count_all}
use Rattle.xds_stats.proofs.look.held_by_count.Goals as goal

pub loop-write-preserved : goal.loop-write-preserved
loop-write-preserved g c =
    count_more c.args.writes.now c.loop-write.write-index c.write-item.result _ _ _ c.loop-write-test.true c.write-item.is c.count-held.ensures c.loop-write.invariant

pub returns : goal.returns
returns g c =
    count_all c.args.writes.now c.loop-write.write-index _ _ c.loop-write-test.false c.loop-write.invariant
