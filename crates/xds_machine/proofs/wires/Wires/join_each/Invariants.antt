use Rattle.std.proofs.Common.{◌≡◌, length}
use Rattle.xds_machine.specs.Wiring.{AllChange, Stays}
use Rattle.xds_machine.proofs.Joining.{AreJoinedTo}
use Rattle.xds_machine.proofs.wires.Wires.join_each.Given as goal

abbrev pub invariant-loop-to : goal.invariant-loop-to
invariant-loop-to g l =
    (l.count ≡ length l.self.replicas.items)
    × (l.self.senders ≡ l.fn.self.senders)
    × AllChange (λ _. Stays) l.fn.self.replicas.items l.self.replicas.items
    × AreJoinedTo g.M.Links.linked l.from l.to l.self.replicas.items

abbrev pub invariant-loop-from : goal.invariant-loop-from
invariant-loop-from g l =
    (l.count ≡ length l.self.replicas.items)
    × (l.self.senders ≡ l.fn.self.senders)
    × AllChange (λ _. Stays) l.fn.self.replicas.items l.self.replicas.items
    × AreJoinedTo g.M.Links.linked l.from 0 l.self.replicas.items
