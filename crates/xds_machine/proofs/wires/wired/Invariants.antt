use Rattle.std.proofs.Common.{◌≡◌, ◌++◌, All, OnOk, length}
use Rattle.std.specs.Prelude.{map, IfErr}
use Rattle.xds_resource.specs.declared.refusal.Refusal.TheVariants.{OutOfMemory}
use Rattle.xds_machine.specs.Wiring.{AreOrdered, IsAlone}
use Rattle.xds_machine.proofs.wires.wired.Given as goal

abbrev pub invariant-loop-sockets : goal.invariant-loop-sockets
invariant-loop-sockets g l =
    All IsAlone l.wires.replicas.items
    × OnOk l.done ((map (λ b. b.sockets) l.wires.replicas.items ++ l.sockets-iterator.rest.items ≡ l.fn.sockets.items) × (length l.wires.senders.items ≡ length l.wires.replicas.items) × AreOrdered g.M.Links.ordered l.wires.senders.items l.wires.replicas.items)
    × IfErr l.done (λ e. e ≡ OutOfMemory)
