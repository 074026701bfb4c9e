use Rattle.std.proofs.Common.{sym, ◌∙◌}
use Rattle.xds_machine.proofs.Joining.{alone_after, begun_after, refused_after, still_refused, wired_after}
use Rattle.xds_machine.proofs.wires.wired.Goals as goal

pub loop-sockets-preserved : goal.loop-sockets-preserved
loop-sockets-preserved g c = (
  alone_after c.in-Some.sockets c.orders.result c.add.result c.loop-sockets.wires c.add.new.self c.loop-sockets.invariant.0 c.add.ensures.channel c.add.ensures.adds c.add.ensures.err,
  begun_after g.M.Links.ordered c.in-Some.sockets c.args.sockets.items c.loop-sockets.sockets-iterator.rest.items c.next.new.self.rest.items c.in-Some.ensures.steps.0
      c.orders.result c.loop-sockets.done c.add.result c.both-done.result c.loop-sockets.wires c.add.new.self c.loop-sockets.invariant.1 c.orders.ensures
      c.add.ensures.channel c.add.ensures.adds c.both-done.ensures,
  still_refused c.loop-sockets.done c.add.result c.both-done.result c.loop-sockets.invariant.2 c.add.ensures.refused c.both-done.ensures,
)

pub returns-clause-ok : goal.returns-clause-ok
returns-clause-ok g c =
    wired_after g.M.Links.ordered g.M.Links.linked c.args.sockets.items c.loop-sockets.sockets-iterator.rest.items c.loop-sockets.done c.join_each-joined.result c.both.result c.kept.result c.loop-sockets.wires c.join_each-joined.new.self
    (sym c.loop-sockets.sockets-iterator.rest.ok.0 ∙ c.in-None.ensures.steps.0) c.loop-sockets.invariant.1 c.join_each-joined.ensures.senders c.join_each-joined.ensures.stay c.join_each-joined.ensures.joined c.both.ensures c.kept.ensures.ok c.kept.ensures.err

pub returns-clause-refused : goal.returns-clause-refused
returns-clause-refused g c =
    refused_after c.both.result c.kept.result c.join_each-joined.new.self (still_refused c.loop-sockets.done c.join_each-joined.result c.both.result c.loop-sockets.invariant.2 c.join_each-joined.ensures.refused c.both.ensures) c.kept.ensures.ok c.kept.ensures.err
