use Rattle.std.proofs.Common.{refl}
use Rattle.xds_ledger.specs.OfferParts.{told_of}
use Rattle.xds_ledger.proofs.Walking.{walk_begins, walk_further, walk_ends}
use Rattle.xds_ledger.proofs.offers.with_changed.Goals as goal

pub loop-number-init : goal.loop-number-init
loop-number-init g c = walk_begins c.args.catalogue.now c.args.mark (told_of c.args.variant g.T.ResourceType.TYPE c.args.interest.now c.args.catalogue.now.entries c.args.beliefs.now) c.args.due

pub loop-number-preserved : goal.loop-number-preserved
loop-number-preserved g c =
    let f = told_of c.args.variant g.T.ResourceType.TYPE c.args.interest.now c.args.catalogue.now.entries c.args.beliefs.now in
    walk_further c.args.catalogue.now c.args.mark f c.args.due c.loop-number.after c.in-Some.number c.in-Some.write.now c.name.result.now (f c.name.result.now) c.loop-number.said c.put_owed.new.said
    c.in-Some.ensures.numbered c.in-Some.ensures.next c.name.ensures.name refl c.in_ok-put_owed.ensures.ok c.loop-number.invariant

pub returns-clause-ok : goal.returns-clause-ok
returns-clause-ok g c =
    walk_ends c.args.catalogue.now c.args.mark (told_of c.args.variant g.T.ResourceType.TYPE c.args.interest.now c.args.catalogue.now.entries c.args.beliefs.now) c.args.due c.loop-number.after c.loop-number.said
    c.in_default.ensures.none c.loop-number.invariant
