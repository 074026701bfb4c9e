use Rattle.xds_cache.proofs.Interests.{wants_what_is_reached, list_is_interest, list_is_asked, first_is_asked, first_change_is_asked, change_is_asked}
use Rattle.xds_cache.proofs.laws.interests_agree.Goals as goal

pub returns-clause-reached : goal.returns-clause-reached
returns-clause-reached c = wants_what_is_reached

pub returns-clause-listed : goal.returns-clause-listed
returns-clause-listed c = list_is_interest

pub returns-clause-changed : goal.returns-clause-changed
returns-clause-changed c = change_is_asked

pub returns-clause-asked : goal.returns-clause-asked
returns-clause-asked c = list_is_asked

pub returns-clause-first : goal.returns-clause-first
returns-clause-first c = first_is_asked

pub returns-clause-first_change : goal.returns-clause-first_change
returns-clause-first_change c = first_change_is_asked
