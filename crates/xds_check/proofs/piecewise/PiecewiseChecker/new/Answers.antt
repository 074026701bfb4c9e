use Rattle.xds_check.proofs.PieceByPiece.{read_nothing}
use Rattle.xds_check.proofs.piecewise.PiecewiseChecker.new.Goals as goal

pub returns : goal.returns
returns c = read_nothing (record { checker = c.new.result; held = c.new-2.result }) c.new.ensures c.new-2.ensures.items
