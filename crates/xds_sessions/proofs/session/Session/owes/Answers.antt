use Rattle.std.proofs.Common.{sym, subst}
use Rattle.xds_catalogue.specs.Holdings.{Holdings}
use Rattle.xds_ledger.specs.Lists.{Fits}
use Rattle.xds_ledger.proofs.Keeping.{ledger_fits}
use Rattle.xds_sessions.proofs.session.Session.owes.Goals as goal

pub owes-requires : goal.owes-requires
owes-requires g c =
    subst (λ (h : Holdings). Fits g.V.Variant.NAME g.T.ResourceType.TYPE c.interest.result.now h c.self.inside.ledger) (sym c.catalogue.ensures)
    (ledger_fits g.V.Variant.NAME g.T.ResourceType.TYPE c.args.catalogue.now (g.V.Speaks.asked c.self.inside.names) c.self.inside.ledger c.args.self.now c.interest.result.now c.self.view_is c.interest.ensures c.requires)
