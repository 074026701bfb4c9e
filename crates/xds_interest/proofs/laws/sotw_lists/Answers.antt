use Rattle.xds_interest.proofs.SotwLaws.{while_nothing_is_named, last_list_says_all, list_reaches_its_names}
use Rattle.xds_interest.proofs.laws.sotw_lists.Goals as goal

pub returns-clause-unnamed : goal.returns-clause-unnamed
returns-clause-unnamed c = while_nothing_is_named

pub returns-clause-last : goal.returns-clause-last
returns-clause-last c = last_list_says_all

pub returns-clause-reaches : goal.returns-clause-reaches
returns-clause-reaches c = list_reaches_its_names
