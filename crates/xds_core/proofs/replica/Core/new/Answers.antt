use Rattle.std.proofs.Common.{arith}
use Rattle.xds_core.proofs.Fitting.{new_fits, fresh_seen}
use Rattle.xds_core.proofs.replica.Core.new.Goals as goal

pub invariant_of-result : goal.invariant_of-result
invariant_of-result c = record { numbered = c.requires; counted = omega arith; fitting = new_fits c.new.result c.new-2.result c.new.ensures c.new-2.ensures }

pub returns : goal.returns
returns c = fresh_seen c.args.replica c.new.result c.new-2.result c.new.ensures c.new-2.ensures
