use Rattle.xds_stats.proofs.Sizing.{live_more, live_all}
use Rattle.xds_stats.proofs.sizes.live_texts.Goals as goal

pub loop-write-preserved : goal.loop-write-preserved
loop-write-preserved g c =
    live_more c.args.writes.now c.loop-write.write-index c.write-item.result _ _ _ c.loop-write-test.true c.write-item.is c.in_ok-push_body.ensures.ok c.loop-write.invariant

pub returns-clause-ok : goal.returns-clause-ok
returns-clause-ok g c = live_all c.args.writes.now c.loop-write.write-index _ _ c.loop-write-test.false c.loop-write.invariant
