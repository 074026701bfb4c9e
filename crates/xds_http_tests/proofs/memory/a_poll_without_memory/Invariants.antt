use Rattle.xds_http_tests.proofs.memory.a_poll_without_memory.Given as goal

-- the node has the name of the tokens that were just made, and its replica the number 1
abbrev pub ghosts-comes_again : goal.ghosts-comes_again
ghosts-comes_again g a = record { id = a.opened; replica = 1 }
