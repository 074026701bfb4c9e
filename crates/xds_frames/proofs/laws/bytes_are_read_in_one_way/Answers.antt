use Rattle.xds_frames.proofs.Readings.{read_once}
use Rattle.xds_frames.proofs.Covering.{all_read}
use Rattle.xds_frames.proofs.laws.bytes_are_read_in_one_way.Goals as goal

pub returns-clause-one : goal.returns-clause-one
returns-clause-one c = read_once

pub returns-clause-some : goal.returns-clause-some
returns-clause-some c = all_read
