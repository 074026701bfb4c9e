use Rattle.xds_node_tests.proofs.memory.a_node_without_memory.Given as goal

-- the node has the name of the tokens that were just made, and its replica this number
abbrev pub ghosts-refused_of : goal.ghosts-refused_of
ghosts-refused_of g a = record { id = a.opened; replica = 1 }
