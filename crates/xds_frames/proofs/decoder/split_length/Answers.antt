use Rattle.std.proofs.Common.{arith}
use Rattle.xds_frames.proofs.Fronts.{spelled}
use Rattle.xds_frames.proofs.decoder.split_length.Goals as goal

pub returns-clause-some : goal.returns-clause-some
returns-clause-some c =
    let ok = c.in_ok-length in
    (c.from_be_bytes.type_inv, spelled c.args.bytes.now ok.length.now ok.body.now c.from_be_bytes.result (λ i. omega (arith, c.type_inv.bytes i)) ok.ensures.cases c.from_be_bytes.ensures)
