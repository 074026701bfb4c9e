use Rattle.xds_ledger.specs.declared.variant.VariantName.TheVariants.{Delta}
use Rattle.xds_session_tests.proofs.Later.{session_takes}
use Rattle.xds_session_tests.proofs.delta.Server.take.Goals as goal

pub invariant_of-self-clause-fits : goal.invariant_of-self-clause-fits
invariant_of-self-clause-fits g c =
    session_takes Delta g.T.ResourceType.TYPE c.args.self.now.catalogue c.args.self.now.session c.take-outcome.new.self c.take-outcome.result c.take-outcome.ensures.fits c.take-outcome.ensures.err c.args.self.now.fits
