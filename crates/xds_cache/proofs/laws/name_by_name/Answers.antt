use Rattle.xds_cache.proofs.Interests.{wanted_by_name, shown_by_name, kept_by_name, holds_what_is_wanted}
use Rattle.xds_cache.proofs.laws.name_by_name.Goals as goal

pub returns-clause-wanted : goal.returns-clause-wanted
returns-clause-wanted c = wanted_by_name

pub returns-clause-shown : goal.returns-clause-shown
returns-clause-shown c = shown_by_name

pub returns-clause-kept : goal.returns-clause-kept
returns-clause-kept c = kept_by_name

pub returns-clause-within : goal.returns-clause-within
returns-clause-within c = holds_what_is_wanted
