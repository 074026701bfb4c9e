use Rattle.xds_node_tests.proofs.waits.a_writer_that_is_held_back_finds_all_changes.Given as goal

-- the node has the name of the tokens that were just made, and its replica this number
abbrev pub ghosts-holds : goal.ghosts-holds
ghosts-holds g a = record { id = a.opened; replica = 1 }
