use Rattle.xds_core.specs.Seen.{event_of, answer_of}
use Rattle.xds_rest.proofs.Polled.{step_rests}
use Rattle.xds_rest.proofs.by_seat.reply_by_call.Goals as goal

pub reply_by_answer-requires : goal.reply_by_answer-requires
reply_by_answer-requires g c =
    step_rests g.P.Posts.replica (g.P.Posts.calls c.args.seat.now) (g.P.Posts.calls c.post_call.new.seat) (event_of c.args.event) (answer_of c.in-Ok.answer) c.requires c.in-Ok.ensures.step
