use Rattle.xds_interest.proofs.Adding.{AddedSoFar}
use Rattle.xds_interest.proofs.names.NameSet.insert_all.Given as goal

abbrev pub invariant-loop-name : goal.invariant-loop-name
invariant-loop-name l = AddedSoFar l.initial.name-iterator l.name-iterator l.initial.self l.self
