use Rattle.xds_changes.proofs.Pieces.{is_none-pieces_in}
use Rattle.xds_changes.proofs.marking.is_over.Goals as goal

pub returns : goal.returns
returns c = is_none-pieces_in c.args.mark c.args.text c.is_none.result c.is_none.ensures
