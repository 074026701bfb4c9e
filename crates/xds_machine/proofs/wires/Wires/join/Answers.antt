use Rattle.std.proofs.lemmas.Result.{on_ok_weaker}
use Rattle.xds_machine.proofs.Wired.{both_change}
use Rattle.xds_machine.proofs.wires.Wires.join.Goals as goal

pub returns-clause-joins : goal.returns-clause-joins
returns-clause-joins g c = rw c.in_ok-sends.was
    (on_ok_weaker c.hand.result (both_change c.args.from c.args.to c.in_ok-sends.sends c.in_ok-sends.takes c.args.self.now.replicas.items c.give.new.replicas.items c.hand.new.replicas.items c.in_ok-give.ensures.gains) c.hand.ensures.gains)
