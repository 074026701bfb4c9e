use Rattle.std.proofs.Common.{ap, ◌∙◌}
use Rattle.std.specs.FinSet as set
use Rattle.xds_interest.proofs.Texts.{strings_of_clones}
use Rattle.xds_interest.proofs.names.NameSet.try_copy.Goals as goal

pub returns-clause-ok : goal.returns-clause-ok
returns-clause-ok c = ap (λ names. set.from_list names) (strings_of_clones _ _ c.in_ok-names.ensures.cases) ∙ c.self.view_is
