use Rattle.xds_exchange.proofs.Cutting.{parts_joined}
use Rattle.xds_exchange.proofs.outbox_laws.parts_are_the_writes.Goals as goal

pub returns : goal.returns
returns c = parts_joined
