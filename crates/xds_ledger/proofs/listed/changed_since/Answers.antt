use Rattle.std.proofs.Common.{Some, sym, ap, subst, ◌∙◌}
use Rattle.std.specs.FinMap as finmap
use Rattle.xds_resource.specs.Writes.{text_cmp}
use Rattle.xds_ledger.proofs.Fitting.{all_changed}
use Rattle.xds_ledger.proofs.Walking.{IsWalkedTo, walk_begins, walk_further, walk_ends}
use Rattle.xds_ledger.proofs.listed.changed_since.Goals as goal

pub loop-number-init : goal.loop-number-init
loop-number-init g c =
    let h = c.args.catalogue.now in
    subst (IsWalkedTo h c.args.mark c.args.mark (finmap.get h.latest) finmap.empty) (sym c.new-changed.ensures) (walk_begins h c.args.mark (finmap.get h.latest) finmap.empty)

pub loop-number-preserved : goal.loop-number-preserved
loop-number-preserved g c =
    let h = c.args.catalogue.now in
    walk_further h c.args.mark (finmap.get h.latest) finmap.empty c.loop-number.last c.in-Some.number c.in-Some.write.now c.name.result.now (Some c.in-Some.number) c.loop-number.changed c.put.new.self c.in-Some.ensures.numbered c.in-Some.ensures.next
    c.name.ensures.name (sym (ap (finmap.get h.latest) c.name.ensures.name ∙ c.in-Some.ensures.next.numbered)) c.in_ok-put.ensures.ok c.loop-number.invariant

pub returns-clause-ok : goal.returns-clause-ok
returns-clause-ok g c =
    let h = c.args.catalogue.now in
    all_changed h c.args.mark c.loop-number.changed finmap.empty (λ q. finmap.get-empty text_cmp q) (walk_ends h c.args.mark (finmap.get h.latest) finmap.empty c.loop-number.last c.loop-number.changed c.in_default.ensures.none c.loop-number.invariant)
