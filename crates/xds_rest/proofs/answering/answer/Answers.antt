use Rattle.std.proofs.Common.{subst}
use Rattle.xds_core.specs.Seen.{event_of}
use Rattle.xds_rest.specs.Posts.{addressed, IsAskedBy}
use Rattle.xds_rest.specs.Seen.{asked_of}
use Rattle.xds_rest.proofs.Asking as asking
use Rattle.xds_rest.proofs.answering.answer.Goals as goal

pub returns-in-Asks-clause-ok : goal.returns-in-Asks-clause-ok
returns-in-Asks-clause-ok c =
    let a = addressed c.args.method.now c.args.path.now c.args.body.now in
    let asks = subst (λ x. IsAskedBy a c.args.body.now (asked_of x)) c.in-Asks.is c.in_ok-reply.ensures.ok in
    asking.asked_ok c.args.core.now a c.args.body.now (event_of c.in-Asks.event) c.reply_by.result asks c.reply_by.ensures.ok

pub returns-in-Asks-clause-refused : goal.returns-in-Asks-clause-refused
returns-in-Asks-clause-refused c =
    let a = addressed c.args.method.now c.args.path.now c.args.body.now in
    let asks = subst (λ x. IsAskedBy a c.args.body.now (asked_of x)) c.in-Asks.is c.in_ok-reply.ensures.ok in
    asking.asked_err a c.args.body.now (event_of c.in-Asks.event) c.reply_by.result asks c.reply_by.ensures.refused

pub returns-in-Asks-clause-memory : goal.returns-in-Asks-clause-memory
returns-in-Asks-clause-memory c short =
    let a = addressed c.args.method.now c.args.path.now c.args.body.now in
    let asks = subst (λ x. IsAskedBy a c.args.body.now (asked_of x)) c.in-Asks.is c.in_ok-reply.ensures.ok in
    asking.polls a c.args.body.now (event_of c.in-Asks.event) asks
