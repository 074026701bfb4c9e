use Rattle.xds_ledger.proofs.Settling.{sending_commutes}
use Rattle.xds_ledger.proofs.laws.sending_commutes.Goals as goal

pub returns : goal.returns
returns c = sending_commutes
