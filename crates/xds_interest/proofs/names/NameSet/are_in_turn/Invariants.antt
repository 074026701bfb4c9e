use Rattle.xds_interest.proofs.Again.{AlikeStrings}
use Rattle.xds_interest.proofs.names.NameSet.are_in_turn.Given as goal

abbrev pub invariant-loop-text : goal.invariant-loop-text
invariant-loop-text l = AlikeStrings l.kind l.texts l.text-index l.initial.left l.left
