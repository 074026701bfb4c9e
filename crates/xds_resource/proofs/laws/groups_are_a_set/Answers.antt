use Rattle.xds_resource.proofs.Grouping.{grouped-ascend, has_group-grouped, grouped_same}
use Rattle.xds_resource.proofs.laws.groups_are_a_set.Goals as goal

pub returns-clause-ascend : goal.returns-clause-ascend
returns-clause-ascend c = grouped-ascend

pub returns-clause-members : goal.returns-clause-members
returns-clause-members c = has_group-grouped

pub returns-clause-alone : goal.returns-clause-alone
returns-clause-alone c = grouped_same
