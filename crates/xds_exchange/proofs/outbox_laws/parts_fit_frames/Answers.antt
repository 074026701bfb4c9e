use Rattle.xds_exchange.proofs.Framing.{parts_fit}
use Rattle.xds_exchange.proofs.outbox_laws.parts_fit_frames.Goals as goal

pub returns : goal.returns
returns c = parts_fit
