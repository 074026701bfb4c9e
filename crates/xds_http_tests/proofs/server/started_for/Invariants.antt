use Rattle.xds_http_tests.proofs.server.started_for.Given as goal

-- the node has the name of the tokens that were just made, and its replica the number 1
abbrev pub ghosts-begin : goal.ghosts-begin
ghosts-begin g a = record { id = a.opened; replica = 1 }
