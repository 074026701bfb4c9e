use Rattle.std.proofs.Common.{rules}
use Rattle.xds_exchange.proofs.Relays.{takes}
use Rattle.xds_exchange.proofs.ends.Incoming.take.Goals as goal

pub recv_as-requires-clause-rule : goal.recv_as-requires-clause-rule
recv_as-requires-clause-rule g c = (takes _ _ c.args.self.now.may, search rules)
