use Rattle.xds_core.proofs.Fitting.{kept_fits, merge_fits}
use Rattle.xds_core.proofs.replica.Core.merge.Goals as goal

pub invariant_of-self : goal.invariant_of-self
invariant_of-self c = record {
  numbered = c.self.invariant.numbered;
  counted = c.self.invariant.counted;
  fitting = kept_fits c.self.inside.held c.join_all.new.self c.self.inside.streams c.in_err-grown.ensures.err c.self.invariant.fitting;
}

pub invariant_of-self-2 : goal.invariant_of-self-2
invariant_of-self-2 c = record {
  numbered = c.self.invariant.numbered;
  counted = c.self.invariant.counted;
  fitting = merge_fits c.self.inside.held c.join_all.new.self c.self.inside.streams c.args.batch c.in_ok-grown.grown c.in_ok-grown.ensures.joins c.self.invariant.fitting;
}
