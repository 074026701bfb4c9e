use Rattle.std.proofs.Common.{◌<◌, length, arith}
use Rattle.xds_trace.proofs.Traced.{lines_more, sound_more, untold_there}
use Rattle.xds_trace.proofs.telling.all_lines.Goals as goal

pub loop-record-preserved : goal.loop-record-preserved
loop-record-preserved c =
    let records = c.args.records.now in
    let i = c.loop-record.record-index in
    let x = c.record-item.result in
    let below : i < length records = omega arith in (
      lines_more records i x c.loop-record.lines.items c.push_record.new.lines.items below c.record-item.is c.loop-record.invariant.0 c.in-Ok.ensures.told,
      sound_more records i x below c.record-item.is c.loop-record.invariant.1 c.in-Ok.ensures.sound,
    )

pub returns-in-Err-clause-told : goal.returns-in-Err-clause-told
returns-in-Err-clause-told c =
    let records = c.args.records.now in
    let i = c.loop-record.record-index in
    let below : i < length records = omega arith in
    untold_there records i c.record-item.result c.in-Err.refusal below c.record-item.is c.loop-record.invariant.1 c.in-Err.ensures.told c.in-Err.ensures.sound
