use Rattle.std.proofs.Common.{◌≡◌}
use Rattle.xds_frames.specs.Devices.{seen}
use Rattle.xds_client.specs.Turning.{GoesOn, client_of, devices, left_to_do, variant_of}
use Rattle.xds_client.proofs.running.serve.Given as goal

abbrev pub invariant-loop-left : goal.invariant-loop-left
invariant-loop-left g l =
    GoesOn (variant_of l.initial.client) l.wish.kind (client_of l.initial.client) l.wish.responses l.left (client_of l.client) l.decoder
    (devices (seen g.R.Read.remaining l.initial.reader l.reader) (seen g.W.Write.contents l.initial.writer l.writer) (seen g.O.Write.contents l.initial.output l.output) l.initial.reader.calls l.reader.calls)
    × (variant_of l.client ≡ variant_of l.initial.client)

abbrev pub decreases-loop-left : goal.decreases-loop-left
decreases-loop-left g l = left_to_do l.reader.calls l.decoder
