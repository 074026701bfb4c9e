use Rattle.xds_catalogue.proofs.JoinLaws.{joins_the_writes, join_commutes, join_associates, join_is_idempotent}
use Rattle.xds_catalogue.proofs.laws.join_is_a_semilattice.Goals as goal

pub returns-clause-writes : goal.returns-clause-writes
returns-clause-writes c = joins_the_writes

pub returns-clause-commutative : goal.returns-clause-commutative
returns-clause-commutative c = join_commutes

pub returns-clause-associative : goal.returns-clause-associative
returns-clause-associative c = join_associates

pub returns-clause-idempotent : goal.returns-clause-idempotent
returns-clause-idempotent c = join_is_idempotent
