use Rattle.xds_http_tests.proofs.calls.a_poll_is_one_record.Given as goal

-- the node has the name of the tokens that were just made, and its replica the number 1
abbrev pub ghosts-recorded : goal.ghosts-recorded
ghosts-recorded g a = record { id = a.opened; replica = 1 }
