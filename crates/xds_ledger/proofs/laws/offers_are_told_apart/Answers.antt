use Rattle.xds_ledger.proofs.SameOffers.{offers_are_told_apart}
use Rattle.xds_ledger.proofs.laws.offers_are_told_apart.Goals as goal

pub returns : goal.returns
returns c = offers_are_told_apart
