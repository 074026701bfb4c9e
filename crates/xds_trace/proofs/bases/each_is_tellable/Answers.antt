use Rattle.std.specs.Prelude.{IfSome}
use Rattle.std.specs.FinMap as finmap
use Rattle.xds_ledger.proofs.LookedAt.{none_looked_at}
use Rattle.xds_trace.specs.Bases.{IsTellable}
use Rattle.xds_trace.proofs.AnyBase.{looked_further, all_looked_through, writable_tellable}
use Rattle.xds_trace.proofs.bases.each_is_tellable.Goals as goal

pub loop-number-init : goal.loop-number-init
loop-number-init g c = none_looked_at (λ name. IfSome (finmap.get c.args.catalogue.now.entries name) (IsTellable g.T.ResourceType.TYPE)) c.args.catalogue.now 0

pub loop-number-preserved : goal.loop-number-preserved
loop-number-preserved g c =
    let t = g.T.ResourceType.TYPE in
    let w = c.in-Some.write.now in
    looked_further t c.args.catalogue.now c.loop-number.last c.in-Some.number w c.in-Some.ensures.numbered c.in-Some.ensures.next (writable_tellable t w c.could_be_read.ensures) c.loop-number.invariant

pub returns-clause-each : goal.returns-clause-each
returns-clause-each g c = all_looked_through g.T.ResourceType.TYPE c.args.catalogue.now c.loop-number.last c.in_default.ensures.numbered c.in_default.ensures.none c.loop-number.invariant
