use Rattle.xds_node_tests.proofs.ends.each_call_makes_one_seat.Given as goal

-- the node has the name of the tokens that were just made, and its replica this number
abbrev pub ghosts-has_both_seats : goal.ghosts-has_both_seats
ghosts-has_both_seats g a = record { id = a.opened; replica = 1 }
