use Rattle.std.proofs.Common.{◌≡◌, ℕ, List, false, length, sym, subst}
use Rattle.std.specs.Prelude.{◌==◌}
use Rattle.std.proofs.lemmas.Result.{MatchResult-weaker}
use Rattle.xds_changes.proofs.LineReading.{IsReadInto, read_none, read_more, read_all}
use Rattle.xds_changes.proofs.write_lines.read_batch.Goals as goal

pub loop-bytes-init : goal.loop-bytes-init
loop-bytes-init c =
    let tells = c.is_empty.ensures in
    let was = c.if-is_empty.false in
    let some : (length c.args.body.now == 0) ≡ false = cc in
    subst (λ (left : List ℕ). IsReadInto c.args.body.now left 1 c.new-batch.result) (sym c.without_last_feed-left.ensures)
    (read_none c.args.body.now c.new-batch.result some c.new-batch.ensures)

pub loop-bytes-preserved : goal.loop-bytes-preserved
loop-bytes-preserved c =
    let taken = c.in_default-take_write.ensures.taken in
    read_more c.args.body.now c.loop-bytes.left.now c.in-Some.following.now c.in-Some.bytes.now c.loop-bytes.line c.loop-bytes.batch c.take_write.new.batch taken.0 c.loop-bytes.invariant
    c.in-Some.ensures.split c.in-Some.ensures.shorter taken.1 taken.2

pub returns-clause-writes : goal.returns-clause-writes
returns-clause-writes c =
    MatchResult-weaker c.take_last.result c.take_last.ensures.taken
    (λ b h. read_all c.args.body.now c.loop-bytes.left.now c.loop-bytes.line c.loop-bytes.batch b h.0 c.loop-bytes.invariant c.in_default.ensures.last h.1 h.2)
    (λ _ h. h)
