use Rattle.xds_server.proofs.starting.start_replica.Given as goal

-- the node has the name of the tokens that were just made, and the replica's number
abbrev pub ghosts-start_named : goal.ghosts-start_named
ghosts-start_named g a = record { id = a.opened; replica = a.number }
