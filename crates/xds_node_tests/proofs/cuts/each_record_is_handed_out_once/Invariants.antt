use Rattle.xds_node_tests.proofs.cuts.each_record_is_handed_out_once.Given as goal

-- the node has the name of the tokens that were just made, and its replica this number
abbrev pub ghosts-cuts : goal.ghosts-cuts
ghosts-cuts g a = record { id = a.opened; replica = 1 }
