use Rattle.xds_node_tests.proofs.seats.four_seats_are_told_each_counter_once.Given as goal

-- the node has the name of the tokens that were just made, and its replica this number
abbrev pub ghosts-four_seats : goal.ghosts-four_seats
ghosts-four_seats g a = record { id = a.opened; replica = 1 }
