use Rattle.xds_core.proofs.Fitting.{kept_fits, delete_fits}
use Rattle.xds_core.proofs.replica.Core.delete.Goals as goal

pub invariant_of-self : goal.invariant_of-self
invariant_of-self c = record {
  numbered = c.self.invariant.numbered;
  counted = c.self.invariant.counted;
  fitting = kept_fits c.self.inside.held c.delete.new.self c.self.inside.streams c.in_err-stamp.ensures.err c.self.invariant.fitting;
}

pub invariant_of-self-2 : goal.invariant_of-self-2
invariant_of-self-2 c = record {
  numbered = c.self.invariant.numbered;
  counted = c.self.invariant.counted;
  fitting = delete_fits c.self.inside.held c.delete.new.self c.self.inside.streams c.args.kind c.args.name.now c.self.inside.replica c.in_ok-stamp.stamp.counter c.in_ok-stamp.ensures.deletes c.self.invariant.fitting;
}
