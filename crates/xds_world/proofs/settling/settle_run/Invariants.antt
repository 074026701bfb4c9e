use Rattle.std.proofs.Common.{map}
use Rattle.xds_script.specs.ModelSeen.{happening_of}
use Rattle.xds_world.proofs.Settles.{Settles, left_to_do}
use Rattle.xds_world.proofs.settling.settle_run.Given as goal

abbrev pub invariant-loop-step : goal.invariant-loop-step
invariant-loop-step g l = Settles g.A.Accept.accepts l.client l.kind (map happening_of l.initial.run.events.items) (map happening_of l.run.events.items) l.run.state l.responses

abbrev pub decreases-loop-step : goal.decreases-loop-step
decreases-loop-step g l = left_to_do l.client (map happening_of l.initial.run.events.items) (map happening_of l.run.events.items) l.run.state
