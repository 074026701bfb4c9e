use Rattle.std.proofs.Common.{sym, subst}
use Rattle.std.specs.FinMap as finmap
use Rattle.xds_ledger.specs.Listed.{Fits}
use Rattle.xds_ledger.proofs.Fitting.{new_list_fits}
use Rattle.xds_sessions.proofs.published.Published.first_offer.Goals as goal

pub offer-requires : goal.offer-requires
offer-requires g c =
    let s = c.args.interest.now in
    let h = c.self.inside.catalogue in
    let t = g.T.ResourceType.TYPE in
    subst (λ b. Fits c.args.variant t s h b c.new-unlisted.result) (sym c.new-nothing.ensures)
    (subst (λ l. Fits c.args.variant t s h finmap.empty l) (sym c.new-unlisted.ensures) (new_list_fits c.args.variant t s h))
