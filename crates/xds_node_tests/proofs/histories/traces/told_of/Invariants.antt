use Rattle.xds_node_tests.proofs.histories.traces.told_of.Given as goal

-- the node has the name of the tokens that were just made, and its replica this number
abbrev pub ghosts-told : goal.ghosts-told
ghosts-told g a = record { id = a.opened; replica = 1 }
