use Rattle.xds_interest.proofs.NameSets.{RemovedSoFar}
use Rattle.xds_interest.proofs.names.NameSet.remove_all.Given as goal

abbrev pub invariant-loop-text : goal.invariant-loop-text
invariant-loop-text l = RemovedSoFar l.texts l.text-index l.initial.self l.self
