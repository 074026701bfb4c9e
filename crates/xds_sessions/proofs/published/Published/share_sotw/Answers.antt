use Rattle.std.proofs.Common.{◌≡◌, sym, ap, ◌∙◌}
use Rattle.std.specs.Prelude.{is_some}
use Rattle.std.specs.FinMap as finmap
use Rattle.xds_interest.specs.Interests.{Selection}
use Rattle.xds_catalogue.specs.Holdings.{Holdings}
use Rattle.xds_ledger.specs.declared.variant.VariantName.TheVariants.{StateOfTheWorld}
use Rattle.xds_ledger.specs.Offers.{Offer, offer}
use Rattle.xds_sessions.specs.SotwPolls.{stated_bodies}
use Rattle.xds_sessions.specs.Wildcards.{IsShared, all_of}
use Rattle.xds_sessions.proofs.Sharing.{kept_more, few_more, few_kept}
use Rattle.xds_sessions.proofs.published.Published.share_sotw.Goals as goal

pub invariant_of-self : goal.invariant_of-self
invariant_of-self g c =
    let t = g.T.ResourceType.TYPE in
    let m = c.self.inside.catalogue.entries in
    let cluster = c.cluster-cluster.result.now in
    let all : c.args.interest.now ≡ all_of cluster = c.requires ∙ ap all_of (sym c.cluster-cluster.ensures) in
    let made : c.in_ok-offer.offer ≡ offer StateOfTheWorld t c.args.interest.now m finmap.empty =
    c.in_ok-offer.ensures.ok ∙ ap (λ (h : Holdings). offer StateOfTheWorld t c.args.interest.now h.entries finmap.empty) (sym c.self.view_is) in
    let room = c.make_room.ensures.fits t m c.self.invariant in
    record {
      sotw =
          kept_more (IsShared StateOfTheWorld t (λ m s o x. x ≡ stated_bodies m s o) m) c.make_room.new.self.sotw c.put.new.self cluster _ c.put.result c.put.ensures.ok c.put.ensures.err
          (record {
            offer_is = made ∙ ap (λ (s : Selection). offer StateOfTheWorld t s m finmap.empty) all;
            names_are = λ name. c.in_ok-names.ensures.ok name ∙ ap (λ (o : Offer). is_some (finmap.get o name)) c.as_map-2.ensures;
            said_is = c.in_ok-said.ensures.ok ∙ c.in_ok-stated.ensures.ok ∙ (λ i. stated_bodies m (all i) (c.as_map.ensures i));
          })
          room.sotw;
      delta = room.delta;
      told = room.told;
      few_sotw = few_more c.make_room.new.self.sotw c.put.new.self cluster _ c.put.result c.put.ensures.ok c.put.ensures.err c.make_room.ensures.sotw;
      few_delta = few_kept c.make_room.new.self.delta c.make_room.ensures.delta;
      few_told = few_kept c.make_room.new.self.told c.make_room.ensures.told;
    }
