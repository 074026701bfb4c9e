use denote.Param.Send.{param_send}
use Rattle.xds_server.proofs.starting.fn.start_calls.spawn.Goals as goal

-- what the bounds say of threads comes behind what they say of lifetimes
pub run_replica-requires-send-A : goal.run_replica-requires-send-A
run_replica-requires-send-A g c κs within = param_send 1 _ c.requires.1.1.1.1.1.1.1.1.1.1.1.1

pub run_replica-requires-send-S : goal.run_replica-requires-send-S
run_replica-requires-send-S g c κs within = param_send 2 _ c.requires.1.1.1.1.1.1.1.1.1.1.1.2

pub run_replica-requires-send-A-Seat-1 : goal.run_replica-requires-send-A-Seat-1
run_replica-requires-send-A-Seat-1 g c κs within = param_send 3 _ c.requires.1.1.1.1.1.1.1.1.1.1.1.3

pub run_replica-requires-send-A-Segment : goal.run_replica-requires-send-A-Segment
run_replica-requires-send-A-Segment g c κs within = param_send 4 _ c.requires.1.1.1.1.1.1.1.1.1.1.1.4

pub run_replica-requires-send-A-PostSeat : goal.run_replica-requires-send-A-PostSeat
run_replica-requires-send-A-PostSeat g c κs within = param_send 5 _ c.requires.1.1.1.1.1.1.1.1.1.1.1.5

pub run_replica-requires-send-A-Seat-2 : goal.run_replica-requires-send-A-Seat-2
run_replica-requires-send-A-Seat-2 g c κs within = param_send 6 _ c.requires.1.1.1.1.1.1.1.1.1.1.1.6
