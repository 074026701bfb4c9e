use Rattle.std.proofs.Common.{arith}
use Rattle.xds_exchange.specs.Parts.{typed_write}
use Rattle.xds_exchange.proofs.Cutting.{full_of_writes, full_of_bytes, more, sound_first, sound_more}
use Rattle.xds_exchange.proofs.outbox.part_len.Goals as goal

pub returns-then-len-eq-MAX_WRITES-clause-ok : goal.returns-then-len-eq-MAX_WRITES-clause-ok
returns-then-len-eq-MAX_WRITES-clause-ok c =
    let before = c.loop-write.invariant in
    rw before.0 (full_of_writes typed_write c.args.writes.now c.loop-write.write-index c.loop-write-test.true (omega (arith, before.0, c.if-len-eq-MAX_WRITES.true)) (omega (arith, before.2, before.3)))

pub returns-then-bytes-weight-gt-MAX_BYTES-clause-ok : goal.returns-then-bytes-weight-gt-MAX_BYTES-clause-ok
returns-then-bytes-weight-gt-MAX_BYTES-clause-ok c =
    let before = c.loop-write.invariant in
    rw before.0 (full_of_bytes typed_write c.args.writes.now c.loop-write.write-index c.write-item.result c.loop-write-test.true (omega (arith, before.0, before.1)) (omega (arith, before.2, before.3)) c.write-item.is (omega (arith, c.in_ok-weight.ensures.ok, c.in_ok-weight.ensures.few)) (omega (arith, before.2, c.in_ok-weight.ensures.ok, c.if-bytes-weight-gt-MAX_BYTES.true)))

pub returns-then-len-eq-MAX_WRITES-clause-sound : goal.returns-then-len-eq-MAX_WRITES-clause-sound
returns-then-len-eq-MAX_WRITES-clause-sound c =
    let before = c.loop-write.invariant in
    rw before.0 (sound_first typed_write c.args.writes.now c.loop-write.write-index before.4)

pub returns-then-bytes-weight-gt-MAX_BYTES-clause-sound : goal.returns-then-bytes-weight-gt-MAX_BYTES-clause-sound
returns-then-bytes-weight-gt-MAX_BYTES-clause-sound c =
    let before = c.loop-write.invariant in
    rw before.0 (sound_first typed_write c.args.writes.now c.loop-write.write-index before.4)

pub loop-write-preserved : goal.loop-write-preserved
loop-write-preserved c =
    let before = c.loop-write.invariant in
    let writes = c.args.writes.now in
    let i = c.loop-write.write-index in
    let write = c.write-item.result in (
      omega (arith, before.0),
      omega (arith, before.1, c.if-len-eq-MAX_WRITES.false),
      omega (arith, before.2, c.in_ok-weight.ensures.ok, more typed_write writes i write c.loop-write-test.true c.write-item.is),
      omega (arith, c.if-bytes-weight-gt-MAX_BYTES.false),
      sound_more typed_write writes i write c.loop-write-test.true c.write-item.is before.4 c.in_ok-weight.ensures.sound,
    )
