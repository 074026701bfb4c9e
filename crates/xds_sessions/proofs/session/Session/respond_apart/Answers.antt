use Rattle.std.proofs.Common.{sym, subst}
use Rattle.xds_catalogue.specs.Holdings.{Holdings}
use Rattle.xds_ledger.specs.Lists.{Fits}
use Rattle.xds_ledger.proofs.Keeping.{ledger_fits}
use Rattle.xds_sessions.proofs.session.Session.respond_apart.Goals as goal

pub offer-requires : goal.offer-requires
offer-requires g c =
    subst (λ (h : Holdings). Fits g.V.Variant.NAME g.T.ResourceType.TYPE c.interest-interest.result.now h c.self.inside.ledger) (sym c.catalogue-catalogue.ensures)
    (ledger_fits g.V.Variant.NAME g.T.ResourceType.TYPE c.args.catalogue.now (g.V.Speaks.asked c.self.inside.names) c.self.inside.ledger c.args.self.now c.interest-interest.result.now c.self.view_is c.interest-interest.ensures c.requires)
