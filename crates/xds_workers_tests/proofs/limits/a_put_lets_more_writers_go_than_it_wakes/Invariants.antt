use Rattle.xds_workers_tests.proofs.limits.a_put_lets_more_writers_go_than_it_wakes.Given as goal

-- the node has the name of the tokens that were just made
abbrev pub ghosts-many_go : goal.ghosts-many_go
ghosts-many_go g a = record { id = a.opened; replica = 1 }
