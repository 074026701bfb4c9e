use Rattle.std.proofs.Common.{ap, ◌∙◌}
use Rattle.xds_node.specs.Prints.{mixed}
use Rattle.xds_node.proofs.Fingerprints.{mixed_step, mixed_end}
use Rattle.xds_node.proofs.node.prints.mixed.Goals as goal

pub loop-byte-preserved : goal.loop-byte-preserved
loop-byte-preserved c =
    mixed_step c.loop-byte.sum _ c.as_bytes-byte-items.result.now c.loop-byte.byte-index c.from.result 0 c.loop-byte-test.true c.from.ensures c.loop-byte.invariant

pub returns : goal.returns
returns c =
    mixed_end c.loop-byte.sum _ c.as_bytes-byte-items.result.now c.loop-byte.byte-index c.loop-byte-test.false c.loop-byte.invariant
    ∙ ap (mixed c.args.print) c.as_bytes-byte-items.ensures.value
