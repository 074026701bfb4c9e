use Rattle.std.proofs.Common.{[], None, refl}
use Rattle.xds_flows.specs.Owing.{write_at}
use Rattle.xds_flows.proofs.Owings.{is_writes_all, writes_on}
use Rattle.xds_flows.proofs.streams.writer.serve_writer.Goals as goal

pub returns : goal.returns
returns g c =
    let at = write_at g.H.Host.told g.H.Host.refused g.W.Write.contents in
    is_writes_all c.args.stream (g.H.Host.told c.args.seat.now) (g.H.Host.told c.close_at_stop.new.seat) (g.H.Host.refused c.args.seat.now) (g.H.Host.refused c.close_at_stop.new.seat)
    (g.W.Write.contents c.args.writer.now.inner) (g.W.Write.contents c.write_responses-served.new.writer.inner) c.args.writer.now.failed c.write_responses-served.new.writer.failed c.write_responses-served.result
    (writes_on c.args.stream (at c.args.seat.now None [] c.args.writer.now) (at c.write_responses-served.new.seat None [] c.write_responses-served.new.writer)
    (at c.close_at_stop.new.seat None [] c.write_responses-served.new.writer) c.write_responses-served.result c.write_responses-served.ensures refl refl c.close_at_stop.ensures)
