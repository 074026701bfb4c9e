use Rattle.xds_runs.proofs.Versions.{one_write_a_version}
use Rattle.xds_runs.proofs.laws.a_version_is_of_one_write.Goals as goal

pub returns : goal.returns
returns c = one_write_a_version
