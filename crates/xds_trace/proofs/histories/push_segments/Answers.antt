use Rattle.std.proofs.Common.{◌<◌, length, arith}
use Rattle.xds_trace.proofs.Joining.{pieces_more, pieces_sound}
use Rattle.xds_trace.proofs.histories.push_segments.Goals as goal

pub loop-segment-preserved : goal.loop-segment-preserved
loop-segment-preserved g c =
    let segments = c.args.segments.now in
    let i = c.loop-segment.segment-index in
    let p = c.segment-item.result in
    let rs = c.records.result.now in
    let below : i < length segments = omega arith in (
      pieces_more segments i p rs below c.segment-item.is c.records.ensures c.args.lines.now.items c.loop-segment.lines.items c.push_legal.new.lines.items c.loop-segment.invariant.0 c.in-Ok.ensures.0,
      pieces_sound segments i p rs below c.segment-item.is c.records.ensures c.loop-segment.invariant.1 c.in-Ok.ensures.1,
    )
