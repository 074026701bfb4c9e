use Rattle.xds_interest.proofs.NameSets.{InsertedSoFar}
use Rattle.xds_interest.proofs.names.NameSet.insert_names.Given as goal

abbrev pub invariant-loop-text : goal.invariant-loop-text
invariant-loop-text l = InsertedSoFar l.kind l.texts l.text-index l.initial.self l.self
