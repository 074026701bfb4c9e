use Rattle.std.proofs.Common.{◌≤◌, ◌<◌, arith, subst, sym}
use Rattle.xds_changes.specs.Given.{AreBelow}
use Rattle.xds_changes.proofs.Numbering.{below_more, below_all, below_at}
use Rattle.xds_changes.proofs.given.above_all.Goals as goal

pub loop-write-preserved : goal.loop-write-preserved
loop-write-preserved g c =
    let before = c.loop-write.invariant in
    let grown : c.loop-write.number ≤ c.max-number.result = omega (arith, c.max-number.ensures) in
    let above : c.write-item.result.writer < c.max-number.result = omega (arith, c.max-number.ensures, c.from.ensures, c.stamp.ensures.writer) in (
      omega (arith, before.0, grown),
      below_more c.deref-write-items.result.now c.loop-write.write-index c.loop-write.number c.max-number.result c.write-item.result c.loop-write-test.true c.write-item.is grown above before.1,
      λ other from all.
          let no_more = before.2 other from all in
          let this : c.write-item.result.writer < other = below_at c.deref-write-items.result.now c.loop-write.write-index other c.write-item.result c.loop-write-test.true c.write-item.is all in
          omega (arith, c.max-number.ensures, c.from.ensures, c.stamp.ensures.writer, no_more, this),
    )

pub returns-clause-above : goal.returns-clause-above
returns-clause-above g c =
    subst (AreBelow c.loop-write.number) c.deref-write-items.ensures.value
    (below_all c.deref-write-items.result.now c.loop-write.write-index c.loop-write.number (omega (arith, c.loop-write-test.false)) c.loop-write.invariant.1)

pub returns-clause-least : goal.returns-clause-least
returns-clause-least g c = λ other from all.
    c.loop-write.invariant.2 other from (subst (AreBelow other) (sym c.deref-write-items.ensures.value) all)
