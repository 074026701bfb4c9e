use Rattle.xds_server_tests.proofs.weights.left_after.Given as goal

-- the node has the name of the tokens that were just made, and the number that it is made with
abbrev pub ghosts-records_after : goal.ghosts-records_after
ghosts-records_after g a = record { id = a.opened; replica = 1 }
