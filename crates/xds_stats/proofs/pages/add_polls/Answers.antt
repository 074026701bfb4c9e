use Rattle.xds_stats.specs.Pages.{with_polls}
use Rattle.xds_stats.proofs.Paging.{put_more, put_all}
use Rattle.xds_stats.proofs.pages.add_polls.Goals as goal

pub loop-shown-preserved : goal.loop-shown-preserved
loop-shown-preserved c =
    put_more with_polls c.args.replicas.now c.loop-shown.shown-index _ _ _ _ c.loop-shown-test.true c.in_ok-add_polls_of.ensures c.loop-shown.invariant

pub returns : goal.returns
returns c =
    put_all with_polls c.args.replicas.now c.loop-shown.shown-index _ _ _ c.loop-shown-test.false c.loop-shown.invariant c.in_ok-about.ensures
