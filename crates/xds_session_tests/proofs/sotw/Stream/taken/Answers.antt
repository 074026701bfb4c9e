use Rattle.xds_ledger.specs.declared.variant.VariantName.TheVariants.{StateOfTheWorld}
use Rattle.xds_session_tests.proofs.Later.{session_takes}
use Rattle.xds_session_tests.proofs.sotw.Stream.taken.Goals as goal

pub invariant_of-self-clause-fits : goal.invariant_of-self-clause-fits
invariant_of-self-clause-fits g c =
    session_takes StateOfTheWorld g.T.ResourceType.TYPE c.args.self.now.catalogue c.args.self.now.session c.take-outcome.new.self c.take-outcome.result c.take-outcome.ensures.fits c.take-outcome.ensures.err c.args.self.now.fits
