use Rattle.xds_frames.proofs.Standing.{fed_stands, finished_stands}
use Rattle.xds_frames.proofs.laws.faults_stand.Goals as goal

pub returns-clause-fed : goal.returns-clause-fed
returns-clause-fed c = fed_stands

pub returns-clause-finished : goal.returns-clause-finished
returns-clause-finished c = finished_stands
