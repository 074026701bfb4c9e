use Rattle.xds_exchange.proofs.Cutting.{parts_within}
use Rattle.xds_exchange.proofs.outbox_laws.parts_are_within_bounds.Goals as goal

pub returns : goal.returns
returns c = parts_within
