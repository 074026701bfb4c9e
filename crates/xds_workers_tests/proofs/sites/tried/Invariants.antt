use Rattle.xds_workers_tests.proofs.sites.tried.Given as goal

-- the node has the name of the tokens that were just made
abbrev pub ghosts-tried_with : goal.ghosts-tried_with
ghosts-tried_with g a = record { id = a.opened; replica = 1 }
