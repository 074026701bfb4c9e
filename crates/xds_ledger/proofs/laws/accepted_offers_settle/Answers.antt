use Rattle.xds_ledger.proofs.Settling.{accepted_owes_nothing}
use Rattle.xds_ledger.proofs.laws.accepted_offers_settle.Goals as goal

pub returns : goal.returns
returns c = accepted_owes_nothing
