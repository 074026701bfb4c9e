use Rattle.xds_node_tests.proofs.waits.waits_end_by_what_others_do.Given as goal

-- the node has the name of the tokens that were just made, and its replica this number
abbrev pub ghosts-waits : goal.ghosts-waits
ghosts-waits g a = record { id = a.opened; replica = 1 }
