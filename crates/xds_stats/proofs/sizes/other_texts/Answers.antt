use Rattle.xds_stats.proofs.Sizing.{others_more, others_all}
use Rattle.xds_stats.proofs.sizes.other_texts.Goals as goal

pub loop-write-preserved : goal.loop-write-preserved
loop-write-preserved g c =
    others_more c.args.writes.now c.loop-write.write-index c.args.put.now c.write-item.result _ _ _ c.loop-write-test.true c.write-item.is c.in_ok-push_other.ensures.ok c.loop-write.invariant

pub returns-clause-ok : goal.returns-clause-ok
returns-clause-ok g c = others_all c.args.writes.now c.loop-write.write-index c.args.put.now _ _ c.loop-write-test.false c.loop-write.invariant
