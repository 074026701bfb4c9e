use Rattle.xds_workers_tests.proofs.lost.a_merge_without_a_record_is_receipted_as_lost.Given as goal

-- each node has the name of the tokens that were just made for it
abbrev pub ghosts-lost_once-M-NodeName : goal.ghosts-lost_once-M-NodeName
ghosts-lost_once-M-NodeName g a = record { id = a.first; replica = 1 }

abbrev pub ghosts-lost_once-N-NodeName : goal.ghosts-lost_once-N-NodeName
ghosts-lost_once-N-NodeName g a = record { id = a.second; replica = 2 }
