use Rattle.xds_resource.proofs.TypesApart.{puts_at_one_type, at-each, same_at_each_type}
use Rattle.xds_resource.proofs.laws.one_type_at_a_time.Goals as goal

pub returns-clause-puts : goal.returns-clause-puts
returns-clause-puts types c = puts_at_one_type

pub returns-clause-alike : goal.returns-clause-alike
returns-clause-alike types c = at-each

pub returns-clause-same : goal.returns-clause-same
returns-clause-same types c = same_at_each_type
