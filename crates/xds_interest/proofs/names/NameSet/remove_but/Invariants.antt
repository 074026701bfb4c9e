use Rattle.xds_interest.proofs.Adding.{RemovedBut}
use Rattle.xds_interest.proofs.names.NameSet.remove_but.Given as goal

abbrev pub invariant-loop-text : goal.invariant-loop-text
invariant-loop-text l = RemovedBut l.kept l.texts l.text-index l.initial.self l.self
