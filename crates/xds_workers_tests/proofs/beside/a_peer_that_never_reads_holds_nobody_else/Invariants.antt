use Rattle.xds_workers_tests.proofs.beside.a_peer_that_never_reads_holds_nobody_else.Given as goal

-- the node has the name of the tokens that were just made
abbrev pub ghosts-unread : goal.ghosts-unread
ghosts-unread g a = record { id = a.opened; replica = 1 }
