use Rattle.xds_workers_tests.proofs.exchanges.a_hundred_parcels_pass_where_the_journals_are_short.Given as goal

-- each node has the name of the tokens that were just made for it
abbrev pub ghosts-exchange_shortly-M-NodeName : goal.ghosts-exchange_shortly-M-NodeName
ghosts-exchange_shortly-M-NodeName g a = record { id = a.first; replica = 1 }

abbrev pub ghosts-exchange_shortly-N-NodeName : goal.ghosts-exchange_shortly-N-NodeName
ghosts-exchange_shortly-N-NodeName g a = record { id = a.second; replica = 2 }
