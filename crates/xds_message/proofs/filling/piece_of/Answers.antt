use Rattle.std.proofs.Common.{arith}
use Rattle.xds_message.proofs.UnsentLemmas.{front_pieces}
use Rattle.xds_message.proofs.filling.piece_of.Goals as goal

pub returns : goal.returns
returns c =
    front_pieces c.args.offset c.args.parts.head.now c.args.parts.body.now c.args.parts.tail.now c.as_bytes-head.result.now c.as_bytes.result.now c.as_bytes-2.result.now c.piece_of_two.result.now
    c.as_bytes-head.ensures.value c.as_bytes.ensures.value c.as_bytes-2.ensures.value (omega (arith, c.if-offset-head.false)) c.piece_of_two.ensures
