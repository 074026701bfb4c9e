use Rattle.xds_interest.proofs.NameSets.{DifferenceLeft}
use Rattle.xds_interest.proofs.names.NameSet.insert_difference.Given as goal

abbrev pub invariant-loop-name : goal.invariant-loop-name
invariant-loop-name l = DifferenceLeft l.other l.initial.name-iterator l.name-iterator l.initial.self l.self
