use Rattle.xds_node_tests.proofs.ends.without_a_seat_it_is_not_complete.Given as goal

-- the node has the name of the tokens that were just made, and its replica this number
abbrev pub ghosts-lacks_a_seat : goal.ghosts-lacks_a_seat
ghosts-lacks_a_seat g a = record { id = a.opened; replica = 1 }
