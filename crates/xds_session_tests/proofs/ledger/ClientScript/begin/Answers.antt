use Rattle.std.proofs.Common.{ap, ◌∙◌}
use Rattle.xds_resource.specs.declared.types.TypeName.TheVariants as types
use Rattle.xds_interest.specs.Interests.{Selection}
use Rattle.xds_session_tests.proofs.Later.{new_named, new_books_fit}
use Rattle.xds_session_tests.proofs.ledger.ClientScript.begin.Goals as goal

pub invariant_of-result-clause-named : goal.invariant_of-result-clause-named
invariant_of-result-clause-named g c = new_named c.of.result (c.of.ensures ∙ c.new.ensures)

pub invariant_of-result-clause-anywhere : goal.invariant_of-result-clause-anywhere
invariant_of-result-clause-anywhere g c = ap (λ (s : Selection). s.cluster) c.nothing.ensures ∙ c.none.ensures

pub invariant_of-result-clause-fits : goal.invariant_of-result-clause-fits
invariant_of-result-clause-fits g c = new_books_fit g.V.Variant.NAME types.Cluster c.nothing.result c.of.result c.new-2.result c.new-2.ensures
