use Rattle.xds_exchange.proofs.Relays.{merges}
use Rattle.xds_exchange.proofs.ends.Outgoing.compare.Goals as goal

pub absorb-requires-clause-rule : goal.absorb-requires-clause-rule
absorb-requires-clause-rule g c = merges _ _ _ _ c.args.self.may c.args.other.may
