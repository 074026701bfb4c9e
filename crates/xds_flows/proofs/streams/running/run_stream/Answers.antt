use Rattle.std.proofs.Common.{inl}
use Rattle.xds_flows.proofs.streams.running.run_stream.Goals as goal

pub returns : goal.returns
returns g c =
    inl (record {
      number = c.in_ok-stream.stream;
      begun = c.open.new.core;
      ended = c.serve-served.new.core;
      opens = c.in_ok-stream.ensures.ok;
      serves = c.serve-served.ensures.serves;
      closes = c.close.ensures;
    })
