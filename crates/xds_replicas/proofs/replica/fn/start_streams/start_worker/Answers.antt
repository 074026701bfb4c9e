use denote.Param.Send.{param_send}
use Rattle.xds_replicas.proofs.replica.fn.start_streams.start_worker.Goals as goal

-- what the bounds say of threads comes behind what they say of lifetimes
pub serve_streams-requires-send-A : goal.serve_streams-requires-send-A
serve_streams-requires-send-A g c κs within = param_send 1 _ c.requires.1.1.1.1.1.1.1.1

pub serve_streams-requires-send-A-Seat : goal.serve_streams-requires-send-A-Seat
serve_streams-requires-send-A-Seat g c κs within = param_send 4 _ c.requires.1.1.1.1.1.1.1.2

pub serve_streams-requires-send-A-Segment : goal.serve_streams-requires-send-A-Segment
serve_streams-requires-send-A-Segment g c κs within = param_send 5 _ c.requires.1.1.1.1.1.1.1.3

pub serve_streams-requires-send-A-PostSeat : goal.serve_streams-requires-send-A-PostSeat
serve_streams-requires-send-A-PostSeat g c κs within = param_send 6 _ c.requires.1.1.1.1.1.1.1.4
