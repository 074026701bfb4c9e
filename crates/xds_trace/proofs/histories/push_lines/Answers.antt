use Rattle.std.proofs.Common.{◌<◌, length, arith}
use Rattle.xds_trace.specs.Telling.{record_of}
use Rattle.xds_trace.proofs.Joining.{records_more, sound_more, untold_at}
use Rattle.xds_trace.proofs.histories.push_lines.Goals as goal

pub loop-line-preserved : goal.loop-line-preserved
loop-line-preserved c =
    let records = c.args.records.now in
    let i = c.loop-line.line-index in
    let x = c.line-item.result in
    let y = record_of c.record.result.now in
    let below : i < length records = omega arith in (
      records_more records i x y below c.line-item.is c.record.ensures c.args.lines.now.items c.loop-line.lines.items c.push_record.new.lines.items c.loop-line.invariant.0 c.in-Ok.ensures.told,
      sound_more records i x y below c.line-item.is c.record.ensures c.loop-line.invariant.1 c.in-Ok.ensures.sound,
    )

pub returns-in-Err : goal.returns-in-Err
returns-in-Err c =
    let records = c.args.records.now in
    let i = c.loop-line.line-index in
    let below : i < length records = omega arith in
    untold_at records i c.line-item.result (record_of c.record.result.now) below c.line-item.is c.record.ensures c.in-Err.refusal c.loop-line.invariant.1 c.in-Err.ensures.told c.in-Err.ensures.sound
