use Rattle.std.proofs.Common.{◌≤◌, ◌<◌, ◌∙◌, List, ℕ, length, ap, subst, arith}
use Rattle.std.proofs.lemmas.List.{take_all}
use Rattle.xds_frames.specs.Devices.{WrotePart, seen}
use Rattle.xds_trace.specs.Telling.{record_of}
use Rattle.xds_trace.specs.Texts.{records_text}
use Rattle.xds_trace.proofs.Joining.{sound_more}
use Rattle.xds_trace.proofs.TextLemmas.{last_unwritten, text_more, unmade, unwritten}
use Rattle.xds_trace.proofs.texts.write_records.Goals as goal

pub returns-in-Err : goal.returns-in-Err
returns-in-Err g c =
    let records = c.args.records.now in
    let i = c.loop-line.line-index in
    let below : i < length records = omega arith in
    unmade records i c.line-item.result (record_of c.record.result.now) below c.line-item.is c.record.ensures _ _ c.in-Err.refusal c.loop-line.invariant.0 c.loop-line.invariant.1
    c.in-Err.ensures.told c.in-Err.ensures.sound

pub returns-in-Err-gather : goal.returns-in-Err-gather
returns-in-Err-gather g c =
    let records = c.args.records.now in
    let i = c.loop-line.line-index in
    let below : i < length records = omega arith in
    unwritten records i c.line-item.result (record_of c.record.result.now) below c.line-item.is c.record.ensures _ _ _ _ _ _ _ _ c.in-Err-gather.refusal
    (c.as_bytes.ensures.value ∙ c.in-Ok-record_text.ensures.told) c.loop-line.invariant.0 c.in-Err-gather.ensures.failed

pub loop-line-preserved : goal.loop-line-preserved
loop-line-preserved g c =
    let records = c.args.records.now in
    let i = c.loop-line.line-index in
    let below : i < length records = omega arith in (
      text_more records i c.line-item.result (record_of c.record.result.now) below c.line-item.is c.record.ensures _ _ _ _ _ _ _ _ _ (c.as_bytes.ensures.value ∙ c.in-Ok-record_text.ensures.told)
          c.loop-line.invariant.0 c.in_default-gather.ensures.put,
      sound_more records i c.line-item.result (record_of c.record.result.now) below c.line-item.is c.record.ensures c.loop-line.invariant.1 c.in-Ok-record_text.ensures.sound,
    )

pub returns-in-Err-write_whole : goal.returns-in-Err-write_whole
returns-in-Err-write_whole g c =
    let records = c.args.records.now in
    let i = c.loop-line.line-index in
    let over : length records ≤ i = omega arith in
    let part = subst (λ (t : List ℕ). WrotePart (seen g.W.Write.contents c.loop-line.writer c.write_whole.new.writer) t) c.as_slice.ensures.value c.in-Err-write_whole.ensures.failed.1 in
    last_unwritten _ _ _ _ _ _ records _ _ c.in-Err-write_whole.refusal (ap records_text (take_all i records over)) c.loop-line.invariant.0 (c.in-Err-write_whole.ensures.failed.0, part)
