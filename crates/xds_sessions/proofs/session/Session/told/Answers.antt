use Rattle.std.proofs.Common.{◌≡◌, sym, ap, ◌∙◌}
use Rattle.xds_interest.specs.Interests.{Selection}
use Rattle.xds_catalogue.specs.Holdings.{Holdings}
use Rattle.xds_ledger.specs.Lists.{Kept}
use Rattle.xds_ledger.specs.Offers.{Offer, offer}
use Rattle.xds_ledger.proofs.SameOffers.{offers_are_told_apart}
use Rattle.xds_sessions.proofs.session.Session.told.Goals as goal

pub returns-then-would_say-clause-offer : goal.returns-then-would_say-clause-offer
returns-then-would_say-clause-offer g c =
    let v = g.V.Variant.NAME in
    let t = g.T.ResourceType.TYPE in
    let m = c.args.catalogue.now.entries in
    let b = c.self.inside.ledger.account.beliefs in
    let said : Offer = offer v t c.interest-interest.result.now c.catalogue.result.now.entries b in
    let same : said ≡ c.as_map-offer.result.now = (offers_are_told_apart said c.as_map-offer.result.now).0 (sym c.would_say.ensures ∙ c.if-would_say.true) in
    sym c.as_map-offer.ensures ∙ sym same
    ∙ ap (λ (h : Holdings). offer v t c.interest-interest.result.now h.entries b) c.catalogue.ensures
    ∙ ap (λ (s : Selection). offer v t s m b) c.interest-interest.ensures
    ∙ ap (λ (k : Kept). offer v t k.session.asked.interest m k.session.account.beliefs) c.self.view_is
