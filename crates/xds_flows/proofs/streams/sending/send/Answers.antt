use Rattle.xds_frames.specs.Devices.{seen}
use Rattle.xds_node.specs.Sending.{Sends}
use Rattle.xds_flows.proofs.Framing.{unframed}
use Rattle.xds_flows.proofs.streams.sending.send.Goals as goal
use Rattle.xds_resource.proofs.Refusing.{err_is}

pub returns-in_err-block : goal.returns-in_err-block
returns-in_err-block g c =
    err_is (λ r. Sends c.args.draft.now r (seen g.W.Write.contents c.args.writer.now c.args.writer.now)) c.from_residual-in_err-block.result c.in_err-block.field-0.0
    c.from_residual-in_err-block.ensures.1 (unframed (Unit {0}) _ _ _ _ _ c.in_ok-text.ensures.ok c.in_err-block.ensures.refused)
