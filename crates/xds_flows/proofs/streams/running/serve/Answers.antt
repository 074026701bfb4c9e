use Rattle.std.proofs.Common.{[]}
use Rattle.xds_resource.proofs.Refusing.{err_is}
use Rattle.xds_frames.specs.Devices.{seen}
use Rattle.xds_node.specs.Running.{Serves}
use Rattle.xds_flows.proofs.Turns.{goes-start, goes-on, serves-err, serves-ok}
use Rattle.xds_flows.proofs.streams.running.serve.Goals as goal

pub loop-decoder-init : goal.loop-decoder-init
loop-decoder-init g c = (goes-start _ _ _ _ _ _ _ c.new-decoder.ensures, c.requires)

pub returns-in_err-turn-clause-serves : goal.returns-in_err-turn-clause-serves
returns-in_err-turn-clause-serves g c =
    err_is (λ r. Serves c.args.stream c.args.core.now [] (seen g.R.Read.remaining c.args.reader.now c.turn.new.reader) (seen g.W.Write.contents c.args.writer.now c.turn.new.writer) r c.turn.new.core) c.from_residual.result
    c.in_err-turn.field-0.0 c.from_residual.ensures.1 (serves-err _ _ _ _ _ _ _ _ _ _ _ _ _ _ _ _ _ _ c.loop-decoder.invariant.0 _ c.in_err-turn.ensures.turns)

pub loop-decoder-preserved : goal.loop-decoder-preserved
loop-decoder-preserved g c = (goes-on _ _ _ _ _ _ _ _ _ _ _ _ _ _ _ _ _ _ _ _ c.loop-decoder.invariant.0 c.in_ok-turn.ensures.turns c.if-branch.true, c.in_ok-turn.ensures.open)

pub returns-clause-serves : goal.returns-clause-serves
returns-clause-serves g c = serves-ok _ _ _ _ _ _ _ _ _ _ _ _ _ _ _ _ _ _ c.loop-decoder.invariant.0 _ _ _ c.in_ok-turn.ensures.turns c.if-branch.false
