use Rattle.std.proofs.Common.{◌+◌, sym, subst, ◌∙◌, arith}
use Rattle.xds_machine.proofs.Joining.{AreJoinedTo, kept_by, none_joined, row_joined, all_joined}
use Rattle.xds_machine.proofs.wires.Wires.join_each.Goals as goal
use Rattle.xds_machine.proofs.wires.Wires.join_each.Goals.{then-from-to+in_ok-join, else-from-to}

pub loop-to-preserved : goal.loop-to-preserved
loop-to-preserved g c = elim c.if-from-to.branch [
  | then-from-to+in_ok-join w ↦
      let kept = kept_by g.M.Links.linked c.loop-from.from c.loop-to.to c.len-count.result w.ends.result c.args.self.now.replicas.items c.loop-to.self.replicas.items w.join.new.self.replicas.items
      w.if-from-to.true c.loop-from-test.true c.loop-to-test.true c.loop-to.invariant.0 c.loop-to.invariant.2 c.loop-to.invariant.3
      w.in_ok-join.ensures.ends w.ends.ensures w.in_ok-join.ensures.joins in
      rw w.self-is (kept.0, w.in_ok-join.ensures.senders ∙ c.loop-to.invariant.1, kept.1, kept.2)
  | else-from-to w ↦
      let same = w.if-from-to.false in
      rw w.self-is (
        c.loop-to.invariant.0,
        c.loop-to.invariant.1,
        c.loop-to.invariant.2,
        subst (λ k. AreJoinedTo g.M.Links.linked c.loop-from.from (k + 1) c.loop-to.self.replicas.items) same
            (none_joined c.loop-from.from c.loop-to.self.replicas.items (subst (λ k. AreJoinedTo g.M.Links.linked c.loop-from.from k c.loop-to.self.replicas.items) (sym same) c.loop-to.invariant.3)),
      )
]

pub loop-from-preserved : goal.loop-from-preserved
loop-from-preserved g c = (
  c.loop-to.invariant.0,
  c.loop-to.invariant.1,
  c.loop-to.invariant.2,
  row_joined c.loop-from.from c.loop-to.to c.loop-to.self.replicas.items (omega (arith, c.loop-to.invariant.0, c.loop-to.auto.to-end, c.loop-to-test.false)) c.loop-to.invariant.3,
)

pub returns-clause-joined : goal.returns-clause-joined
returns-clause-joined g c =
    all_joined c.loop-from.from c.loop-from.self.replicas.items (omega (arith, c.loop-from.invariant.0, c.loop-from.auto.from-end, c.loop-from-test.false)) c.loop-from.invariant.3
