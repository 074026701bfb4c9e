use Rattle.std.proofs.Common.{None, sym, ap, subst, ◌∙◌}
use Rattle.std.specs.Prelude.{if◌then◌else◌, is_some}
use Rattle.xds_interest.specs.Asked.{Asked}
use Rattle.xds_interest.specs.Interests.{Selection}
use Rattle.xds_catalogue.specs.Holdings.{Holdings, Entries}
use Rattle.xds_ledger.specs.Ledgers as ledgers
use Rattle.xds_ledger.specs.Lists.{Kept, Fits}
use Rattle.xds_ledger.specs.Offers.{offer}
use Rattle.xds_ledger.specs.Sessions.{sending}
use Rattle.xds_ledger.proofs.Keeping.{ledger_fits}
use Rattle.xds_sessions.proofs.session.Session.sends_told.Goals as goal

pub sends_offer-requires-clause-fits : goal.sends_offer-requires-clause-fits
sends_offer-requires-clause-fits g c =
    subst (λ (h : Holdings). Fits g.V.Variant.NAME g.T.ResourceType.TYPE c.interest-interest.result.now h c.self.inside.ledger) (sym c.catalogue.ensures)
    (ledger_fits g.V.Variant.NAME g.T.ResourceType.TYPE c.args.catalogue.now (g.V.Speaks.asked c.self.inside.names) c.self.inside.ledger c.args.self.now c.interest-interest.result.now c.self.view_is c.interest-interest.ensures c.requires.fits)

pub sends_offer-requires-clause-offer : goal.sends_offer-requires-clause-offer
sends_offer-requires-clause-offer g c =
    let v = g.V.Variant.NAME in
    let t = g.T.ResourceType.TYPE in
    let m = c.args.catalogue.now.entries in
    let b = c.self.inside.ledger.account.beliefs in
    c.as_map.ensures ∙ c.requires.offer
    ∙ sym (ap (λ (k : Kept). offer v t k.session.asked.interest m k.session.account.beliefs) c.self.view_is)
    ∙ sym (ap (λ (s : Selection). offer v t s m b) c.interest-interest.ensures)
    ∙ sym (ap (λ (h : Holdings). offer v t c.interest-interest.result.now h.entries b) c.catalogue.ensures)

pub returns : goal.returns
returns g c =
    let a : Asked = g.V.Speaks.asked c.self.inside.names in
    let m : Entries = c.args.catalogue.now.entries in
    let offered = λ (i : Selection). ledgers.sending g.V.Variant.NAME g.T.ResourceType.TYPE i m c.self.inside.ledger.account in
    let begun = ap (λ (k : Kept). k.session.asked.begun) c.self.view_is ∙ c.requires.begun in
    c.sends_offer.ensures ∙ ap (λ (h : Holdings). is_some (ledgers.sending g.V.Variant.NAME g.T.ResourceType.TYPE c.interest-interest.result.now h.entries c.self.inside.ledger.account)) c.catalogue.ensures
    ∙ ap (λ (i : Selection). is_some (offered i)) c.interest-interest.ensures ∙ sym (ap (λ b. is_some (if b then offered a.interest else None)) begun)
    ∙ ap (λ (k : Kept). is_some (sending g.V.Variant.NAME g.T.ResourceType.TYPE k.session m)) c.self.view_is
