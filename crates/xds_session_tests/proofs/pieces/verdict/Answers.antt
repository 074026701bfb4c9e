use Rattle.xds_session_tests.proofs.pieces.verdict.Goals as goal

pub loop-piece-preserved : goal.loop-piece-preserved
loop-piece-preserved c = (_, c.in_ok-read.ensures.read _ c.loop-piece.invariant.1)
