use Rattle.xds_workers_tests.proofs.exchanges.what_a_stopped_node_holds_comes_to_another.Given as goal

-- each node has the name of the tokens that were just made for it
abbrev pub ghosts-exchange_stopped-M-NodeName : goal.ghosts-exchange_stopped-M-NodeName
ghosts-exchange_stopped-M-NodeName g a = record { id = a.first; replica = 1 }

abbrev pub ghosts-exchange_stopped-N-NodeName : goal.ghosts-exchange_stopped-N-NodeName
ghosts-exchange_stopped-N-NodeName g a = record { id = a.second; replica = 2 }
