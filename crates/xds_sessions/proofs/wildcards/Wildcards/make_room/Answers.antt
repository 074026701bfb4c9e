use Rattle.xds_sessions.proofs.wildcards.Wildcards.make_room.Goals as goal

pub returns-then-not-has_room-clause-fits : goal.returns-then-not-has_room-clause-fits
returns-then-not-has_room-clause-fits c = λ t m before. c.none.ensures.fits t m
