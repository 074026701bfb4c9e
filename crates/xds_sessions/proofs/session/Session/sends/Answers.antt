use Rattle.std.proofs.Common.{◌≡◌, true, None, sym, ap, subst, ◌∙◌}
use Rattle.std.specs.Prelude.{if◌then◌else◌, is_some}
use Rattle.xds_interest.specs.Asked.{Asked}
use Rattle.xds_interest.specs.Interests.{Selection}
use Rattle.xds_catalogue.specs.Holdings.{Holdings, Entries}
use Rattle.xds_ledger.specs.Ledgers as ledgers
use Rattle.xds_ledger.specs.Lists.{Kept, Fits}
use Rattle.xds_ledger.specs.Sessions.{sending}
use Rattle.xds_ledger.proofs.Keeping.{ledger_fits}
use Rattle.xds_sessions.proofs.session.Session.sends.Goals as goal

pub sends-requires : goal.sends-requires
sends-requires g c =
    subst (λ (h : Holdings). Fits g.V.Variant.NAME g.T.ResourceType.TYPE c.interest.result.now h c.self.inside.ledger) (sym c.catalogue.ensures)
    (ledger_fits g.V.Variant.NAME g.T.ResourceType.TYPE c.args.catalogue.now (g.V.Speaks.asked c.self.inside.names) c.self.inside.ledger c.args.self.now c.interest.result.now c.self.view_is c.interest.ensures c.requires)

pub returns-then-has_begun : goal.returns-then-has_begun
returns-then-has_begun g c =
    let a : Asked = g.V.Speaks.asked c.self.inside.names in
    let m : Entries = c.args.catalogue.now.entries in
    let offered = λ (i : Selection). ledgers.sending g.V.Variant.NAME g.T.ResourceType.TYPE i m c.self.inside.ledger.account in
    let begun : a.begun ≡ true = sym c.has_begun.ensures ∙ c.if-has_begun.true in
    c.sends.ensures ∙ ap (λ (h : Holdings). is_some (ledgers.sending g.V.Variant.NAME g.T.ResourceType.TYPE c.interest.result.now h.entries c.self.inside.ledger.account)) c.catalogue.ensures
    ∙ ap (λ (i : Selection). is_some (offered i)) c.interest.ensures ∙ sym (ap (λ b. is_some (if b then offered a.interest else None)) begun)
    ∙ ap (λ (k : Kept). is_some (sending g.V.Variant.NAME g.T.ResourceType.TYPE k.session m)) c.self.view_is
