use Rattle.std.proofs.Common.{◌∙◌, ap, ◌==◌}
use Rattle.xds_flows.proofs.Tellings.{put-more}
use Rattle.xds_flows.proofs.replication.to_peer.put_all.Goals as goal

pub loop-preserved : goal.loop-preserved
loop-preserved g c = (
  put-more _ _ _ _ _ _ _ _ _ c.loop.invariant.0 c.in-Ok-Some.ensures.ok c.in-Ok-Some.field-0-is (ap (λ n. n == 0) c.len.ensures) c.in_default.ensures.puts,
  c.in_default.ensures.end ∙ c.loop.invariant.1,
)
