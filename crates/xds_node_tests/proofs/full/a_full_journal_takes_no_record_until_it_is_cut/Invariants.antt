use Rattle.xds_node_tests.proofs.full.a_full_journal_takes_no_record_until_it_is_cut.Given as goal

-- the node has the name of the tokens that were just made, and its replica this number
abbrev pub ghosts-fills_up : goal.ghosts-fills_up
ghosts-fills_up g a = record { id = a.opened; replica = 1 }
