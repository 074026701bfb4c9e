use Rattle.xds_workers_tests.proofs.beside.half_a_frame_holds_nobody_else_while_a_node_is_cut.Given as goal

-- the node has the name of the tokens that were just made
abbrev pub ghosts-half : goal.ghosts-half
ghosts-half g a = record { id = a.opened; replica = 1 }
