use Rattle.std.proofs.Common.{rules}
use Rattle.xds_exchange.proofs.Relays.{puts}
use Rattle.xds_exchange.proofs.ends.Outgoing.end.Goals as goal

pub send_as-requires-clause-rule : goal.send_as-requires-clause-rule
send_as-requires-clause-rule g c = (puts _ _ _ _ c.args.self.now.may, search rules)
