use Rattle.xds_node.proofs.Fingerprints.{united_none, united_more, united_all}
use Rattle.xds_node.proofs.node.prints.Prints.insert_each.Goals as goal

pub loop-print-init : goal.loop-print-init
loop-print-init c = united_none c.args.self.now

pub loop-print-preserved : goal.loop-print-preserved
loop-print-preserved c =
    united_more c.args.self.now c.loop-print.self _ c.args.prints.now c.loop-print.print-index 0 c.loop-print-test.true c.loop-print.invariant c.if-not-insert.ensures

pub returns : goal.returns
returns c = united_all c.args.self.now c.loop-print.self c.args.prints.now c.loop-print.print-index c.loop-print-test.false c.loop-print.invariant
