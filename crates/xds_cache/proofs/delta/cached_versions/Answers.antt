use Rattle.std.proofs.Common.{◌∙◌}
use Rattle.xds_cache.proofs.Making.{put_all-cached_versions}
use Rattle.xds_cache.proofs.delta.cached_versions.Goals as goal

pub returns-clause-ok : goal.returns-clause-ok
returns-clause-ok c = (rw c.in-None.ensures.steps.0 at c.loop-name.invariant) ∙ put_all-cached_versions c.args.cache.now
