use Rattle.xds_http_tests.proofs.full.a_full_journal_is_cut_for_a_request.Given as goal

-- the node has the name of the tokens that were just made, and its replica the number 1
abbrev pub ghosts-full : goal.ghosts-full
ghosts-full g a = record { id = a.opened; replica = 1 }
