use Rattle.xds_ledger.proofs.Fitting.{new_list_fits, wider_list_fits, refreshed_list_fits, pruned_list_fits, owed_is_listed, later_holdings_fit}
use Rattle.xds_ledger.proofs.Later.{joined_is_later}
use Rattle.xds_ledger.proofs.Suffices.{request_keeps_fitting}
use Rattle.xds_ledger.proofs.laws.lists_suffice.Goals as goal

pub returns-clause-new : goal.returns-clause-new
returns-clause-new c = new_list_fits

pub returns-clause-wider : goal.returns-clause-wider
returns-clause-wider c = wider_list_fits

pub returns-clause-refreshed : goal.returns-clause-refreshed
returns-clause-refreshed c = refreshed_list_fits

pub returns-clause-pruned : goal.returns-clause-pruned
returns-clause-pruned c = pruned_list_fits

pub returns-clause-owed : goal.returns-clause-owed
returns-clause-owed c = owed_is_listed

pub returns-clause-taken : goal.returns-clause-taken
returns-clause-taken c = request_keeps_fitting

pub returns-clause-later : goal.returns-clause-later
returns-clause-later c = later_holdings_fit

pub returns-clause-joined : goal.returns-clause-joined
returns-clause-joined c = joined_is_later
