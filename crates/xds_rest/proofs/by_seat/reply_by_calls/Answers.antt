use Rattle.std.proofs.Common.{ap}
use Rattle.xds_core.specs.Seen.{event_of, answer_of}
use Rattle.xds_rest.proofs.Polled.{step_rests, short_no_reply, second_reply, second_no_reply}
use Rattle.xds_rest.proofs.by_seat.reply_by_calls.Goals as goal

pub reply_by_answer-requires : goal.reply_by_answer-requires
reply_by_answer-requires g c =
    step_rests g.P.Posts.replica (g.P.Posts.calls c.args.seat.now) (g.P.Posts.calls c.post_call.new.seat) (event_of c.args.event) (answer_of c.in-Ok.answer) c.requires c.in-Ok.ensures.step

pub returns-then-not-is_full-clause-refused : goal.returns-then-not-is_full-clause-refused
returns-then-not-is_full-clause-refused g c =
    short_no_reply g.P.Posts.replica (g.P.Posts.calls c.args.seat.now) (g.P.Posts.calls c.post_call.new.seat) (event_of c.args.event) c.in-Err.field-0.refusal c.in-Err.ensures.back.1 c.if-not-is_full.ensures c.in-Err.ensures.noted

pub returns-else-not-is_full-clause-ok : goal.returns-else-not-is_full-clause-ok
returns-else-not-is_full-clause-ok g c =
    let same = ap event_of c.in-Err.ensures.back.0 in
    second_reply g.P.Posts.replica (g.P.Posts.calls c.args.seat.now) (g.P.Posts.calls c.post_call.new.seat) (g.P.Posts.calls c.reply_by_call.new.seat) (event_of c.args.event) (event_of c.in-Err.field-0.event) c.in-Err.field-0.refusal c.reply_by_call.result same c.if-not-is_full.ensures c.in-Err.ensures.noted c.reply_by_call.ensures.ok

pub returns-else-not-is_full-clause-refused : goal.returns-else-not-is_full-clause-refused
returns-else-not-is_full-clause-refused g c =
    let same = ap event_of c.in-Err.ensures.back.0 in
    second_no_reply g.P.Posts.replica (g.P.Posts.calls c.args.seat.now) (g.P.Posts.calls c.post_call.new.seat) (g.P.Posts.calls c.reply_by_call.new.seat) (event_of c.args.event) (event_of c.in-Err.field-0.event) c.in-Err.field-0.refusal c.reply_by_call.result same c.if-not-is_full.ensures c.in-Err.ensures.noted c.reply_by_call.ensures.refused
