use Rattle.xds_program.proofs.LastLines.{is_some_text, left_more}
use Rattle.xds_program.proofs.last_line.split_last.Goals as goal

pub loop-following-preserved : goal.loop-following-preserved
loop-following-preserved c =
    left_more c.args.bytes.now _ _ c.in-Some.following.now c.loop-following.invariant c.in-Some.ensures.split.0
    (is_some_text c.in-Some.following.now c.is_empty.result c.is_empty.ensures c.if-is_empty.false)
