use Rattle.xds_frames.specs.Devices.{seen}
use Rattle.xds_node.specs.Turning.{Turns}
use Rattle.xds_flows.proofs.Turns.{given, given_none, turn_answers, turn_filled, turn_refused, turn_stops}
use Rattle.xds_flows.proofs.streams.running.turn.Goals as goal
use Rattle.xds_resource.proofs.Refusing.{err_is}

pub returns-in_err-request-clause-turns : goal.returns-in_err-request-clause-turns
returns-in_err-request-clause-turns g c =
    err_is (λ r. Turns c.args.stream c.args.core.now c.args.decoder.now (seen g.R.Read.remaining c.args.reader.now c.args.reader.now) (seen g.W.Write.contents c.args.writer.now c.args.writer.now) r c.args.core.now c.next_request.new.decoder)
    c.from_residual.result c.in_err-request.field-0.0 c.from_residual.ensures.1 (turn_refused _ _ _ _ _ _ _ _ c.in_err-request.ensures)

pub returns-in_err-answer-in-Some-clause-turns : goal.returns-in_err-answer-in-Some-clause-turns
returns-in_err-answer-in-Some-clause-turns g c =
    let exit = c.in_err-answer-in-Some in
    err_is (λ r. Turns c.args.stream c.args.core.now c.args.decoder.now (seen g.R.Read.remaining c.args.reader.now c.args.reader.now) (seen g.W.Write.contents c.args.writer.now c.answer.new.writer) r c.answer.new.core c.next_request.new.decoder)
    c.from_residual-in_err-answer-in-Some.result exit.field-0.0 c.from_residual-in_err-answer-in-Some.ensures.1
    (turn_stops _ _ _ _ _ _ _ _ _ _ _ _ _ (given _ _ _ _ c.in_ok-request.ensures c.in-Some.is) exit.ensures.answers)

pub returns-in_ok-answer-in-Some-clause-turns : goal.returns-in_ok-answer-in-Some-clause-turns
returns-in_ok-answer-in-Some-clause-turns g c =
    turn_answers _ _ _ _ _ _ _ _ _ _ _ _ (given _ _ _ _ c.in_ok-request.ensures c.in-Some.is) c.in_ok-answer-in-Some.ensures.answers

pub returns-in-None-clause-turns : goal.returns-in-None-clause-turns
returns-in-None-clause-turns g c = turn_filled _ _ _ _ _ _ _ _ _ _ _ c.fill.result (given_none _ _ _ c.in_ok-request.ensures c.in-None.is) c.fill.ensures.filled
