use Rattle.std.proofs.Common.{subst}
use Rattle.xds_ledger.specs.Listed.{StaysSufficient}
use Rattle.xds_ledger.specs.Lists.{Books}
use Rattle.xds_ledger.proofs.Keeping.{suffices_or}
use Rattle.xds_ledger.proofs.ledger.Ledger.refresh.Goals as goal

pub returns-clause-fits : goal.returns-clause-fits
returns-clause-fits g c =
    let h = c.args.catalogue.now in
    subst (λ (b : Books). StaysSufficient h b.listed c.refresh.new.self) c.self.view_is (suffices_or h c.self.inside.listed c.refresh.new.self c.refresh.result c.refresh.ensures.fits c.refresh.ensures.err)
