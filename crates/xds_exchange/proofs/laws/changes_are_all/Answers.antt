use Rattle.xds_exchange.proofs.Knowing.{changes_all}
use Rattle.xds_exchange.proofs.laws.changes_are_all.Goals as goal

pub returns : goal.returns
returns c = changes_all
