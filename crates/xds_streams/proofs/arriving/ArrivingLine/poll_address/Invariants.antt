use Rattle.futures.specs.Task.{Keeps}
use Rattle.xds_streams.proofs.arriving.ArrivingLine.poll_address.Given as goal

abbrev pub invariant-loop : goal.invariant-loop
invariant-loop g l = Keeps l.initial.cx l.cx
