use Rattle.std.proofs.Common.{[], refl, ◌∙◌}
use Rattle.xds_resource.proofs.Refusing.{err_is}
use Rattle.xds_frames.specs.Devices.{seen}
use Rattle.xds_client.specs.Running.{Serves}
use Rattle.xds_client.specs.Turning.{client_of, devices, variant_of}
use Rattle.xds_client.proofs.Serving.{goes-answered, goes-off, goes-read, goes-start}
use Rattle.xds_client.proofs.running.serve.Goals as goal

pub loop-left-init : goal.loop-left-init
loop-left-init g c = (goes-start _ _ _ _ _ _ _ _ _ _ _ _ c.new-decoder.ensures, refl)

pub returns-in_err-turn : goal.returns-in_err-turn
returns-in_err-turn g c =
    err_is
    (λ r. Serves (variant_of c.args.client.now) c.args.wish.now.kind (client_of c.args.client.now) c.args.wish.now.responses [] r
    (devices (seen g.R.Read.remaining c.args.reader.now c.turn.new.reader) (seen g.W.Write.contents c.args.writer.now c.turn.new.writer) (seen g.O.Write.contents c.args.output.now c.turn.new.output) c.args.reader.now.calls c.turn.new.reader.calls))
    c.from_residual.result c.in_err-turn.field-0.0 c.from_residual.ensures.1
    (goes-off _ _ _ _ (client_of c.turn.new.client) _ _ _ c.turn.new.decoder _ _ _ _ _ _ _ _ _ _ _ _ _ _ _ _ _ _ _ _ _ c.loop-left.invariant.0 _ _ c.loop-left.invariant.1 c.loop-left-test.true c.in_err-turn.ensures.turns)

pub loop-left-preserved : goal.loop-left-preserved
loop-left-preserved g c =
    (goes-answered _ _ _ _ _ _ _ _ _ _ _ _ _ _ _ _ _ _ _ _ _ _ _ _ _ _ _ _ _ _ c.loop-left.invariant.0 _ _ c.loop-left.invariant.1 c.if-not-branch.false c.loop-left-test.true c.in_ok-turn.ensures.turns, c.in_ok-turn.ensures.variant ∙ c.loop-left.invariant.1)

pub loop-left-preserved-then-not-branch : goal.loop-left-preserved-then-not-branch
loop-left-preserved-then-not-branch g c =
    (goes-read _ _ _ _ _ _ _ _ _ _ _ _ _ _ _ _ _ _ _ _ _ _ _ _ _ _ _ _ _ _ c.loop-left.invariant.0 _ _ c.if-not-branch.true c.loop-left-test.true c.in_ok-turn.ensures.turns, c.in_ok-turn.ensures.variant ∙ c.loop-left.invariant.1)
