use Rattle.xds_frames.specs.Devices.{seen}
use Rattle.xds_node.specs.Turning.{SendsDue}
use Rattle.xds_flows.proofs.Sendings.{sent-more, sent-whole, sent-refused, sent-unsent}
use Rattle.xds_flows.proofs.streams.sending.send_due.Goals as goal
use Rattle.xds_resource.proofs.Refusing.{err_is}

pub returns-in_err-draft-clause-sends : goal.returns-in_err-draft-clause-sends
returns-in_err-draft-clause-sends g c =
    err_is (λ r. SendsDue c.args.stream c.args.core.now (seen g.W.Write.contents c.args.writer.now c.loop-draft.writer) r c.poll.new.core) c.from_residual.result c.in_err-draft.field-0.0 c.from_residual.ensures.1
    (sent-refused _ _ _ _ _ _ _ _ _ c.loop-draft.invariant.0 c.in_err-draft.ensures.refused c.in_err-draft.ensures.kept)

pub returns-in_err-send-clause-sends : goal.returns-in_err-send-clause-sends
returns-in_err-send-clause-sends g c =
    err_is (λ r. SendsDue c.args.stream c.args.core.now (seen g.W.Write.contents c.args.writer.now c.send.new.writer) r c.poll.new.core) c.from_residual-in_err-send.result c.in_err-send.field-0.0 c.from_residual-in_err-send.ensures.1
    (sent-unsent _ _ _ _ _ _ _ _ _ _ _ _ _ c.loop-draft.invariant.0 c.in_ok-draft.ensures.ok c.in-Some.is c.in_err-send.ensures)

pub loop-draft-preserved-in_ok-send : goal.loop-draft-preserved-in_ok-send
loop-draft-preserved-in_ok-send g c =
    (sent-more _ _ _ _ _ _ _ _ _ _ _ _ c.loop-draft.invariant.0 c.in_ok-draft.ensures.ok c.in-Some.is c.in_ok-send.ensures, c.in_ok-draft.ensures.open)

pub loop-draft-preserved : goal.loop-draft-preserved
loop-draft-preserved g c =
    (sent-more _ _ _ _ _ _ _ _ _ _ _ _ c.loop-draft.invariant.0 c.in_ok-draft.ensures.ok c.in-Some.is c.in_ok-send.ensures, c.in_ok-draft.ensures.open)

pub returns-clause-sends : goal.returns-clause-sends
returns-clause-sends g c = sent-whole _ _ _ _ _ _ _ _ _ c.loop-draft.invariant.0 c.in_ok-draft.ensures.ok c.in_default.is
