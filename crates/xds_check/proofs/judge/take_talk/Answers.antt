use Rattle.std.proofs.Common.{sym, subst}
use Rattle.std.proofs.lemmas.Result.{on_ok_weaker}
use Rattle.xds_check.specs.declared.line.Line.{Line}
use Rattle.xds_check.specs.Kept.{IsHeard}
use Rattle.xds_check.proofs.StreamChanges.{request_heard, answer_heard}
use Rattle.xds_check.proofs.judge.take_talk.Goals as goal

pub returns-in-Request-clause-ok : goal.returns-in-Request-clause-ok
returns-in-Request-clause-ok g c =
    let t = g.T.ResourceType.TYPE in
    let m = c.args.catalogue.now.entries in
    let old = c.args.talks.now in
    let new = c.take_request.new.talks in
    on_ok_weaker c.take_request.result (λ is. subst (λ (l : Line). IsHeard t m l old new) (sym c.in-Request.is) (request_heard t m old new c.in-Request.stream c.in-Request.asking is)) c.take_request.ensures.ok

pub returns-in-Response-clause-ok : goal.returns-in-Response-clause-ok
returns-in-Response-clause-ok g c =
    let t = g.T.ResourceType.TYPE in
    let m = c.args.catalogue.now.entries in
    let old = c.args.talks.now in
    let new = c.take_answer.new.talks in
    on_ok_weaker c.take_answer.result (λ is. subst (λ (l : Line). IsHeard t m l old new) (sym c.in-Response.is) (answer_heard t m old new c.in-Response.stream c.in-Response.answer is)) c.take_answer.ensures.ok
