use Rattle.xds_ledger.proofs.OfferMade.{partial_offer_made}
use Rattle.xds_ledger.proofs.offers.partly.Goals as goal

pub returns-clause-ok : goal.returns-clause-ok
returns-clause-ok g c =
    λ partly fits. partial_offer_made c.args.variant g.T.ResourceType.TYPE c.args.interest.now c.args.catalogue.now c.args.beliefs.now c.args.listed.now c.mark-mark.result c.in_ok-due.due c.in_ok-said.said partly
    c.in_ok-said.ensures.numbered fits c.mark-mark.ensures c.in_ok-due.ensures.ok c.in_ok-said.ensures.ok
