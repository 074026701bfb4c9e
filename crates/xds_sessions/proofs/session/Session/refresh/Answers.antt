use Rattle.std.proofs.Common.{sym, subst, ◌∙◌}
use Rattle.xds_catalogue.specs.Holdings.{Holdings}
use Rattle.xds_ledger.specs.Listed.{StaysSufficient}
use Rattle.xds_ledger.proofs.Keeping.{refreshed_session_fits}
use Rattle.xds_sessions.proofs.session.Session.refresh.Goals as goal

pub returns-clause-fits : goal.returns-clause-fits
returns-clause-fits g c =
    refreshed_session_fits g.V.Variant.NAME g.T.ResourceType.TYPE c.args.catalogue.now (g.V.Speaks.asked c.self.inside.names) c.self.inside.ledger c.refresh.new.self c.args.self.now c.self.view_is c.refresh.ensures.same
    (sym c.has_begun.ensures ∙ c.if-not-has_begun.false) (subst (λ (h : Holdings). StaysSufficient h c.self.inside.ledger.listed c.refresh.new.self.listed) c.catalogue.ensures c.refresh.ensures.fits) c.requires
