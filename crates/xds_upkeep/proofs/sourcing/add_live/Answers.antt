use Rattle.std.proofs.Common.{◌+◌, drop, sym, ap, ◌∙◌}
use Rattle.xds_resource.specs.Any.{stamped_write}
use Rattle.xds_resource.specs.PerType.{at}
use Rattle.xds_upkeep.specs.Linting.{with_writes}
use Rattle.xds_upkeep.proofs.LiveWrites.{live_more}
use Rattle.xds_upkeep.proofs.sourcing.add_live.Goals as goal

-- the write is among those that are live, and those behind it follow
pub loop-index-preserved : goal.loop-index-preserved
loop-index-preserved c =
    let kind = c.args.kind in
    let writes = at c.args.held.now kind in
    let i = c.loop-index.index in
    let write = c.in_ok-write_at.field-0 in
    let below = rw c.len_of-index-end.ensures at c.loop-index-test.true in
    ap (λ m. with_writes kind m (drop (i + 1) writes)) c.in_ok-add_write.ensures
    ∙ sym (live_more kind writes i c.loop-index.live write (stamped_write write) below (c.in_ok-write_at.ensures.ok (stamped_write write)))
    ∙ c.loop-index.invariant
