use Rattle.std.proofs.Common.{sym, subst}
use Rattle.xds_events.proofs.Walking.{IsWalkedTo, walk_begins, walk_further, walk_ends}
use Rattle.xds_events.proofs.changed.by_name.Goals as goal

pub loop-number-init : goal.loop-number-init
loop-number-init g c = subst (IsWalkedTo c.args.catalogue.now c.args.mark c.args.mark) (sym c.new-changed.ensures) (walk_begins c.args.catalogue.now c.args.mark)

pub loop-number-preserved : goal.loop-number-preserved
loop-number-preserved g c =
    walk_further c.args.catalogue.now c.args.mark c.loop-number.last c.in-Some.number c.in-Some.write.now c.in_ok-try_copy.field-0 c.name.result.now c.loop-number.changed c.put.new.self c.in-Some.ensures.numbered c.in-Some.ensures.next
    c.name.ensures.name c.in_ok-try_copy.ensures.copy c.in_ok-put.ensures.ok c.loop-number.invariant

pub returns-clause-ok : goal.returns-clause-ok
returns-clause-ok g c = walk_ends c.args.catalogue.now c.args.mark c.loop-number.last c.loop-number.changed c.in_default.ensures.none c.loop-number.invariant
