use Rattle.std.proofs.Common.{refl}
use Rattle.xds_machine.proofs.wires.Wires.add.Goals as goal

pub returns-clause-adds : goal.returns-clause-adds
returns-clause-adds g c = rw c.in_ok-sender.was
    (record { replica = _; sockets = refl; changes = refl; sends = c.new.ensures.items; takes = c.new-2.ensures.items; senders = c.in_ok-push.ensures.items; replicas = c.in_ok-push-2.ensures.items })
