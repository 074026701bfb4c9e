use Rattle.xds_node_tests.proofs.seats.a_seat_reads_what_it_wrote.Given as goal

-- the node has the name of the tokens that were just made, and its replica this number
abbrev pub ghosts-finds_its_write : goal.ghosts-finds_its_write
ghosts-finds_its_write g a = record { id = a.opened; replica = 7 }
