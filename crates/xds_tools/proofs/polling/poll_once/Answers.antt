use Rattle.std.proofs.Common.{inl, subst}
use Rattle.std.proofs.KnownBytes.{Keeps-refl}
use Rattle.std.specs.declared.net.socket_addr.SocketAddr.TheVariants.{V4}
use Rattle.xds_frames.specs.Devices.{seen}
use Rattle.xds_http.specs.Sent.{IsPolled}
use Rattle.xds_program.specs.Tasks.{Look}
use Rattle.xds_tools.specs.Ends.{ShowsInTime, question_of}
use Rattle.xds_tools.proofs.GivingUp.{shows_late}
use Rattle.xds_tools.proofs.polling.poll_once.Goals as goal

pub returns-in-Some : goal.returns-in-Some
returns-in-Some g c =
    let asked = subst (λ q. IsPolled (g.P.PostsRequests.tells (V4 c.task.inside.addr) c.task.inside.seconds) q c.poll_by-polled.result) c.question_of.ensures c.poll_by-polled.ensures.polled in
    let polled = subst (λ (t : Look). IsPolled (g.P.PostsRequests.tells (V4 t.addr) t.seconds) (question_of c.args.task) c.poll_by-polled.result) c.task.view_is asked in
    let late = shows_late _ _ _ _ _ _ c.in-Some.ensures.0 c.in-Some.ensures.1 (Keeps-refl _) c.tell_late.ensures.told c.tell_late.ensures.status in (
      c.poll_by-polled.result,
      polled,
      subst (λ (t : Look). ShowsInTime t.seconds c.poll_by-polled.result c.tell_late.result (seen g.O.Write.contents c.args.output.now c.args.output.now) (seen g.E.Write.contents c.args.errors.now c.tell_late.new.errors)) c.task.view_is late,
    )

pub returns : goal.returns
returns g c =
    let asked = subst (λ q. IsPolled (g.P.PostsRequests.tells (V4 c.task.inside.addr) c.task.inside.seconds) q c.poll_by-polled.result) c.question_of.ensures c.poll_by-polled.ensures.polled in
    let polled = subst (λ (t : Look). IsPolled (g.P.PostsRequests.tells (V4 t.addr) t.seconds) (question_of c.args.task) c.poll_by-polled.result) c.task.view_is asked in
    (c.poll_by-polled.result, polled, inl c.show.ensures)
