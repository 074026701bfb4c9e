use Rattle.xds_catalogue.proofs.Numbering.{entries_are_numbered, nothing_numbered, no_change_keeps_numbers, number_is_of_the_last}
use Rattle.xds_catalogue.proofs.laws.entries_are_numbered.Goals as goal

pub returns-clause-none : goal.returns-clause-none
returns-clause-none c = nothing_numbered

pub returns-clause-kept : goal.returns-clause-kept
returns-clause-kept c = entries_are_numbered

pub returns-clause-last : goal.returns-clause-last
returns-clause-last c = number_is_of_the_last

pub returns-clause-unchanged : goal.returns-clause-unchanged
returns-clause-unchanged c = no_change_keeps_numbers
