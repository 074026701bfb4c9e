use Rattle.xds_resource.proofs.WriteTies.{write_cmp-IsAntisymmetric}
use Rattle.xds_resource.specs.WriteOrder.{write_cmp_total}
use Rattle.xds_resource.proofs.laws.writes_are_ordered.Goals as goal

pub returns-clause-total : goal.returns-clause-total
returns-clause-total c = write_cmp_total

pub returns-clause-ties : goal.returns-clause-ties
returns-clause-ties c = write_cmp-IsAntisymmetric
