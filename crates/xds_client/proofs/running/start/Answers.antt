use Rattle.xds_frames.specs.Devices.{seen}
use Rattle.xds_client.specs.Running.{Starts}
use Rattle.xds_client.specs.Turning.{client_of, devices, variant_of}
use Rattle.xds_client.proofs.Turns.{starts_cut, starts_served}
use Rattle.xds_client.proofs.running.start.Goals as goal
use Rattle.xds_resource.proofs.Refusing.{err_is}

pub returns-in_err-write_whole : goal.returns-in_err-write_whole
returns-in_err-write_whole g c =
    let v = variant_of c.args.client.now in
    let k = client_of c.args.client.now in
    err_is
    (λ r. Starts v c.args.wish.now.kind k c.args.wish.now.responses c.args.said.now r
    (devices (seen g.R.Read.remaining c.args.reader.now c.args.reader.now) (seen g.W.Write.contents c.args.writer.now c.write_whole.new.writer) (seen g.O.Write.contents c.args.output.now c.args.output.now) c.args.reader.now.calls c.args.reader.now.calls))
    c.from_residual.result c.in_err-write_whole.field-0.0 c.from_residual.ensures.1
    (starts_cut v c.args.wish.now.kind k c.args.wish.now.responses c.args.said.now _ _ _ _ _ _ _ _ _ _ _ c.in_err-write_whole.ensures.failed)

pub returns : goal.returns
returns g c =
    let v = variant_of c.args.client.now in
    let k = client_of c.args.client.now in
    starts_served v c.args.wish.now.kind k c.args.wish.now.responses c.args.said.now _ _ _ _ _ _ _ _ _ _ _ _ _ _ _ _ _ c.in_ok-write_whole.ensures.written c.in_ok-write_whole.ensures.none_failed c.serve.ensures
