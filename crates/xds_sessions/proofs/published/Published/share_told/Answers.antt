use Rattle.std.proofs.Common.{ap, ◌∙◌}
use Rattle.std.specs.Prelude.{is_some}
use Rattle.std.specs.FinMap as finmap
use Rattle.xds_ledger.specs.Offers.{Offer}
use Rattle.xds_sessions.specs.DeltaPolls.{said_by}
use Rattle.xds_sessions.specs.Wildcards.{SaysItsOffer}
use Rattle.xds_sessions.proofs.Sharing.{kept_more, few_more, few_kept}
use Rattle.xds_sessions.proofs.published.Published.share_told.Goals as goal

pub invariant_of-self : goal.invariant_of-self
invariant_of-self g c =
    let t = g.T.ResourceType.TYPE in
    let m = c.self.inside.catalogue.entries in
    let room = c.make_room.ensures.fits t m c.self.invariant in
    record {
      told =
          kept_more (λ cluster. SaysItsOffer m) c.make_room.new.self.told c.put.new.self c.args.cluster.now _ c.put.result c.put.ensures.ok c.put.ensures.err
          (record {
            said_is = c.in_ok-said.ensures.ok ∙ ap (said_by m) c.as_map.ensures;
            names_are = λ name. c.in_ok-names.ensures.ok name ∙ ap (λ (o : Offer). is_some (finmap.get o name)) c.as_map-2.ensures;
          })
          room.told;
      sotw = room.sotw;
      delta = room.delta;
      few_told = few_more c.make_room.new.self.told c.put.new.self c.args.cluster.now _ c.put.result c.put.ensures.ok c.put.ensures.err c.make_room.ensures.told;
      few_sotw = few_kept c.make_room.new.self.sotw c.make_room.ensures.sotw;
      few_delta = few_kept c.make_room.new.self.delta c.make_room.ensures.delta;
    }
