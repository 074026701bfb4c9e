use Rattle.std.proofs.Common.{◌++◌, ◌∙◌, ap, codes, string_bytes}
use Rattle.std.specs.List.{flat_map}
use Rattle.xds_stats.specs.declared.metrics.MetricKind.TheVariants.{Gauge}
use Rattle.xds_stats.specs.Metrics.{help_line}
use Rattle.xds_monitor.specs.Recordings.{running_sample}
use Rattle.xds_stats.proofs.Paging.{line_more, line_all}
use Rattle.xds_monitor.proofs.tapes.running_text.Goals as goal

pub loop-shown-init : goal.loop-shown-init
loop-shown-init c =
    ap (λ t. t ++ flat_map running_sample c.args.running.now)
    (c.in_ok-about.ensures ∙ ap (λ t. t ++ help_line (codes "xds_recording") (codes "Whether the trace of the replica is being recorded.") Gauge) c.new-metrics.ensures)

pub loop-shown-preserved : goal.loop-shown-preserved
loop-shown-preserved c =
    line_more running_sample c.args.running.now c.loop-shown.shown-index _ _ _ _ c.loop-shown-test.true c.in_ok-add_running.ensures c.loop-shown.invariant

pub returns : goal.returns
returns c =
    ap string_bytes c.finish.ensures ∙ line_all running_sample c.args.running.now c.loop-shown.shown-index _ _ c.loop-shown-test.false c.loop-shown.invariant
