use Rattle.std.proofs.Common.{◌∙◌}
use Rattle.xds_session_tests.proofs.Later.{new_named}
use Rattle.xds_session_tests.proofs.delta.ServerActor.new.Goals as goal

pub invariant_of-result-clause-named : goal.invariant_of-result-clause-named
invariant_of-result-clause-named g c = new_named c.of.result (c.of.ensures ∙ c.new.ensures)

pub invariant_of-result-clause-fits : goal.invariant_of-result-clause-fits
invariant_of-result-clause-fits g c = c.new-2.ensures.fits c.of.result
