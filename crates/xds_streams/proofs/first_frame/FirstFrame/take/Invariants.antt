use Rattle.std.proofs.Common.{◌≡◌, drop}
use Rattle.xds_streams.specs.Limits.{frame_after}
use Rattle.xds_streams.proofs.first_frame.FirstFrame.take.Given as goal

-- what is left of the piece makes of the frame what all of it makes of the first
abbrev pub invariant-loop-byte : goal.invariant-loop-byte
invariant-loop-byte l = frame_after l.self (drop l.byte-index l.piece) ≡ frame_after l.initial.self l.piece
