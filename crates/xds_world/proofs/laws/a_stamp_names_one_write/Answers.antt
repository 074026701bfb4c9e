use Rattle.xds_world.proofs.Origins.{one_write_a_stamp}
use Rattle.xds_world.proofs.laws.a_stamp_names_one_write.Goals as goal

pub returns : goal.returns
returns c = one_write_a_stamp
