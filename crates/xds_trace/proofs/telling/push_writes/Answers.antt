use Rattle.xds_resource.specs.PerType.{at}
use Rattle.xds_trace.proofs.Traced.{writes_more, writable_more}
use Rattle.xds_trace.proofs.telling.push_writes.Goals as goal

pub loop-index-preserved : goal.loop-index-preserved
loop-index-preserved c =
    let kind = c.args.kind in
    let writes = at c.args.batch.now kind in
    let i = c.loop-index.index in
    let write = c.in_ok-write.write in
    let below = rw c.len_of-index-end.ensures at c.loop-index-test.true in (
      writes_more kind writes i write c.args.lines.now.items c.loop-index.lines.items c.push.new.self.items below c.in_ok-write.ensures.ok c.loop-index.invariant.0 c.in_ok-push.ensures.items,
      writable_more kind writes i write below c.is_writable_at.ensures c.loop-index.invariant.1,
    )
