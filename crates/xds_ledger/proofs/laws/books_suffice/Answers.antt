use Rattle.xds_ledger.proofs.Foretelling.{sent_books_fit, later_books_fit, refreshed_books_fit, pruned_books_fit, acceptance_keeps_fitting}
use Rattle.xds_ledger.proofs.Keeping.{sent_session_books_fit}
use Rattle.xds_ledger.proofs.laws.books_suffice.Goals as goal

pub returns-clause-sent : goal.returns-clause-sent
returns-clause-sent c = sent_books_fit

pub returns-clause-session : goal.returns-clause-session
returns-clause-session c = sent_session_books_fit

pub returns-clause-later : goal.returns-clause-later
returns-clause-later c = later_books_fit

pub returns-clause-refreshed : goal.returns-clause-refreshed
returns-clause-refreshed c = refreshed_books_fit

pub returns-clause-pruned : goal.returns-clause-pruned
returns-clause-pruned c = pruned_books_fit

pub returns-clause-accepted : goal.returns-clause-accepted
returns-clause-accepted c = acceptance_keeps_fitting
