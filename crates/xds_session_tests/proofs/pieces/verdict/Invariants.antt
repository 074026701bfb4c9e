use Rattle.std.proofs.Common.{List, ℕ}
use Rattle.xds_check.specs.Checkers.{HasRead}
use Rattle.xds_session_tests.proofs.pieces.verdict.Given as goal

-- some bytes were read
abbrev pub invariant-loop-piece : goal.invariant-loop-piece
invariant-loop-piece l = (bytes : List ℕ) × HasRead bytes l.checker
