use Rattle.xds_node_tests.proofs.ends.a_segment_that_is_missing_is_a_gap.Given as goal

-- the node has the name of the tokens that were just made, and its replica this number
abbrev pub ghosts-audits : goal.ghosts-audits
ghosts-audits g a = record { id = a.opened; replica = 1 }
