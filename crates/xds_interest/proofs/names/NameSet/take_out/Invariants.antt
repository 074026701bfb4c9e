use Rattle.xds_interest.proofs.Adding.{TakenSoFar}
use Rattle.xds_interest.proofs.names.NameSet.take_out.Given as goal

abbrev pub invariant-loop-name : goal.invariant-loop-name
invariant-loop-name l = TakenSoFar l.initial.name-iterator l.name-iterator l.initial.self l.self
