use Rattle.xds_resource.proofs.BestWrites.{greater-assoc, greater-comm, greater-idem}
use Rattle.xds_resource.proofs.laws.greater_joins.Goals as goal

pub returns-clause-associative : goal.returns-clause-associative
returns-clause-associative c = greater-assoc

pub returns-clause-commutative : goal.returns-clause-commutative
returns-clause-commutative c = greater-comm

pub returns-clause-idempotent : goal.returns-clause-idempotent
returns-clause-idempotent c = greater-idem
