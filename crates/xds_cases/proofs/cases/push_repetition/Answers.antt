use Rattle.std.proofs.Common.{string_bytes}
use Rattle.xds_cases.proofs.Repeating.{written_once_more}
use Rattle.xds_cases.proofs.cases.push_repetition.Goals as goal

pub loop-preserved : goal.loop-preserved
loop-preserved c =
    written_once_more (string_bytes c.args.all.now) (string_bytes c.loop.all) (string_bytes c.push_str.new.self) c.in-Some.piece.now c.loop.counter c.loop.invariant c.in_ok-push_str.ensures.bytes
