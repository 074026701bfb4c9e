use Rattle.xds_server_tests.proofs.recording.ended.Given as goal

-- the node has the name of the tokens that were just made, and the number that it is made with
abbrev pub ghosts-ends_of : goal.ghosts-ends_of
ghosts-ends_of g a = record { id = a.opened; replica = 1 }
