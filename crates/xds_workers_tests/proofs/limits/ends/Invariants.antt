use Rattle.xds_workers_tests.proofs.limits.ends.Given as goal

-- the node has the name of the tokens that were just made
abbrev pub ghosts-waited_by : goal.ghosts-waited_by
ghosts-waited_by g a = record { id = a.opened; replica = 1 }
