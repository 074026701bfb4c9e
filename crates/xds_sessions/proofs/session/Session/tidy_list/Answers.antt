use Rattle.std.proofs.Common.{sym, ap, subst, ◌∙◌}
use Rattle.xds_catalogue.specs.Holdings.{Holdings}
use Rattle.xds_ledger.specs.Lists.{Fits, Kept}
use Rattle.xds_ledger.proofs.Keeping.{ledger_fits, session_fits_back}
use Rattle.xds_sessions.proofs.session.Session.tidy_list.Goals as goal

pub tidy-requires : goal.tidy-requires
tidy-requires g c =
    subst (λ (h : Holdings). Fits g.V.Variant.NAME g.T.ResourceType.TYPE c.interest.result.now h c.self.inside.ledger) (sym c.catalogue.ensures)
    (ledger_fits g.V.Variant.NAME g.T.ResourceType.TYPE c.args.catalogue.now (g.V.Speaks.asked c.self.inside.names) c.self.inside.ledger c.args.self.now c.interest.result.now c.self.view_is c.interest.ensures c.requires.fits)

pub returns-clause-fits : goal.returns-clause-fits
returns-clause-fits g c =
    session_fits_back g.V.Variant.NAME g.T.ResourceType.TYPE c.args.catalogue.now (g.V.Speaks.asked c.self.inside.names) c.self.inside.ledger c.tidy.new.self c.args.self.now c.interest.result.now c.self.view_is c.interest.ensures c.tidy.ensures.same
    (ap (λ (k : Kept). k.session.asked.begun) c.self.view_is ∙ c.requires.begun)
    (subst (λ (h : Holdings). Fits g.V.Variant.NAME g.T.ResourceType.TYPE c.interest.result.now h c.tidy.new.self) c.catalogue.ensures c.tidy.ensures.fits) c.requires.fits
