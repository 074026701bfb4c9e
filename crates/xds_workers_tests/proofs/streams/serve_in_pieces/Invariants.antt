use Rattle.xds_workers_tests.proofs.streams.serve_in_pieces.Given as goal

-- the node has the name of the tokens that were just made
abbrev pub ghosts-serve : goal.ghosts-serve
ghosts-serve g a = record { id = a.opened; replica = 1 }
