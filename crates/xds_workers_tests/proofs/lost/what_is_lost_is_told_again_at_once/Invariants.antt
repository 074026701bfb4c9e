use Rattle.xds_workers_tests.proofs.lost.what_is_lost_is_told_again_at_once.Given as goal

-- each node has the name of the tokens that were just made for it
abbrev pub ghosts-lost_and_told-M-NodeName : goal.ghosts-lost_and_told-M-NodeName
ghosts-lost_and_told-M-NodeName g a = record { id = a.first; replica = 1 }

abbrev pub ghosts-lost_and_told-N-NodeName : goal.ghosts-lost_and_told-N-NodeName
ghosts-lost_and_told-N-NodeName g a = record { id = a.second; replica = 2 }
