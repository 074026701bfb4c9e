use Rattle.std.proofs.Common.{sym, subst}
use Rattle.xds_ledger.specs.declared.variant.VariantName.TheVariants.{Delta}
use Rattle.xds_ledger.specs.Lists.{SessionFits}
use Rattle.xds_session_tests.proofs.delta.Server.is_of.Goals as goal

pub invariant_of-self-clause-fits : goal.invariant_of-self-clause-fits
invariant_of-self-clause-fits g c =
    subst (SessionFits Delta g.T.ResourceType.TYPE c.args.self.now.catalogue) (sym c.keep.ensures) (c.new-2.ensures.fits c.args.self.now.catalogue)
