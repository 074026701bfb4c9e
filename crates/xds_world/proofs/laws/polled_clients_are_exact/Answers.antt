use Rattle.xds_world.proofs.Polled.{polled_is_exact, polled_is_taken, lost_leaves_the_view, polls_are_possible, pollers_have_no_stream}
use Rattle.xds_world.proofs.laws.polled_clients_are_exact.Goals as goal

pub returns-clause-exact : goal.returns-clause-exact
returns-clause-exact c = polled_is_exact

pub returns-clause-taken : goal.returns-clause-taken
returns-clause-taken c = polled_is_taken

pub returns-clause-lost : goal.returns-clause-lost
returns-clause-lost c = lost_leaves_the_view

pub returns-clause-possible : goal.returns-clause-possible
returns-clause-possible c = polls_are_possible

pub returns-clause-streamless : goal.returns-clause-streamless
returns-clause-streamless c = pollers_have_no_stream
