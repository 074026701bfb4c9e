use Rattle.xds_interest.proofs.Adding.{taken_out}
use Rattle.xds_interest.proofs.delta.DeltaNames.take_back.Goals as goal

pub returns : goal.returns
returns g c = taken_out c.args.self.now c.self.inside.begun c.self.inside.interest c.take_out.new.self c.args.added.now c.self.view_is c.take_out.ensures
