use Rattle.std.proofs.Common.{List, [], sym, subst}
use Rattle.xds_check.specs.declared.line.Line.{Line}
use Rattle.xds_check.specs.Orders.{OrderKept}
use Rattle.xds_check.proofs.Traces.{IsReadTo, read_none, read_more, read_bad}
use Rattle.xds_check.proofs.trace.Trace.read.Goals as goal

pub loop-text-init : goal.loop-text-init
loop-text-init c =
    let bytes = c.args.bytes.now in
    subst (λ (ls : List Line). IsReadTo bytes bytes 1 ls c.new-order.result) (sym c.new-lines.ensures.items) (subst (λ (k : OrderKept). IsReadTo bytes bytes 1 [] k) (sym c.new-order.ensures) (read_none bytes))

pub returns-in-Err-clause-refused : goal.returns-in-Err-clause-refused
returns-in-Err-clause-refused c =
    read_bad c.args.bytes.now c.loop-text.rest.now c.in-Some.text.now c.in-Some.following.now c.loop-text.line c.loop-text.lines.items c.loop-text.order _ c.loop-text.invariant c.in-Some.ensures.split.0 c.in-Some.ensures.split.1 c.in-Err.ensures.refused

pub loop-text-preserved : goal.loop-text-preserved
loop-text-preserved c =
    read_more c.args.bytes.now c.loop-text.rest.now c.in-Some.text.now c.in-Some.following.now c.loop-text.line c.loop-text.lines.items _ c.loop-text.order _ c.loop-text.invariant c.in-Some.ensures.split.0 c.in-Some.ensures.split.1 c.in_default-take_line.ensures.ok
