use Rattle.xds_workers_tests.proofs.cuts.records_of_four_threads_are_numbered_once.Given as goal

-- the node has the name of the tokens that were just made
abbrev pub ghosts-four_seats : goal.ghosts-four_seats
ghosts-four_seats g a = record { id = a.opened; replica = 1 }
