use Rattle.std.proofs.Common.{◌++◌, ◌∙◌, string_bytes}
use Rattle.xds_stats.specs.Metrics.{help_line}
use Rattle.xds_stats.specs.Pages.{with_types}
use Rattle.xds_stats.proofs.Paging.{put_more, put_all}
use Rattle.xds_stats.proofs.pages.add_types.Goals as goal

pub loop-shown-preserved : goal.loop-shown-preserved
loop-shown-preserved c =
    put_more (with_types c.args.of) c.args.replicas.now c.loop-shown.shown-index _ _ _ _ c.loop-shown-test.true c.in_ok-add_types_of.ensures c.loop-shown.invariant

pub returns : goal.returns
returns c =
    put_all (with_types c.args.of) c.args.replicas.now c.loop-shown.shown-index _ _ _ c.loop-shown-test.false c.loop-shown.invariant
    (c.in_ok-about.ensures ∙ (λ i. string_bytes c.args.metrics.now.text ++ help_line (c.name.ensures i) (c.help.ensures i) (c.kind.ensures i)))
