use Rattle.xds_frames.specs.Devices.{seen}
use Rattle.xds_core.specs.StreamsSeen.{message_of}
use Rattle.xds_node.specs.Turning.{AnswersOne}
use Rattle.xds_flows.proofs.Turns.{answered_by, asked_err}
use Rattle.xds_flows.proofs.streams.sending.answer.Goals as goal
use Rattle.xds_resource.proofs.Refusing.{err_is}

pub returns-in_err-ask-clause-answers : goal.returns-in_err-ask-clause-answers
returns-in_err-ask-clause-answers g c =
    err_is (λ r. AnswersOne c.args.stream (message_of c.args.request) c.args.core.now (seen g.W.Write.contents c.args.writer.now c.args.writer.now) r c.ask.new.core) c.from_residual.result c.in_err-ask.field-0.0 c.from_residual.ensures.1
    (asked_err _ _ _ _ _ _ _ c.in_err-ask.ensures.refused c.in_err-ask.ensures.kept)

pub returns-clause-answers : goal.returns-clause-answers
returns-clause-answers g c = answered_by _ _ _ _ _ _ _ _ _ c.send_due.result c.in_ok-ask.ensures.ok c.send_due.ensures.sends
