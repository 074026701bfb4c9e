use Rattle.xds_resource.specs.Any.{resource_type, named_body}
use Rattle.xds_core.proofs.Fitting.{kept_fits, put_fits}
use Rattle.xds_core.proofs.replica.Core.put.Goals as goal

pub invariant_of-self : goal.invariant_of-self
invariant_of-self c = record {
  numbered = c.self.invariant.numbered;
  counted = c.self.invariant.counted;
  fitting = kept_fits c.self.inside.held c.put.new.self c.self.inside.streams c.in_err-stamp.ensures.err c.self.invariant.fitting;
}

pub invariant_of-self-2 : goal.invariant_of-self-2
invariant_of-self-2 c = record {
  numbered = c.self.invariant.numbered;
  counted = c.self.invariant.counted;
  fitting = put_fits c.self.inside.held c.put.new.self c.self.inside.streams (resource_type c.args.resource) (named_body c.args.resource) c.args.groups c.self.inside.replica c.in_ok-stamp.stamp.counter c.in_ok-stamp.ensures.puts c.self.invariant.fitting;
}
