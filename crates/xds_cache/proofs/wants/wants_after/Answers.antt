use Rattle.std.proofs.Common.{ap, ◌∙◌}
use Rattle.std.specs.FinMap as finmap
use Rattle.xds_resource.specs.Names.{put_all}
use Rattle.xds_cache.specs.Parts.{as_before}
use Rattle.xds_cache.proofs.Making.{put_all-wants_after}
use Rattle.xds_cache.proofs.wants.wants_after.Goals as goal

pub returns-clause-ok : goal.returns-clause-ok
returns-clause-ok c =
    (rw c.in-None.ensures.steps.0 at c.loop-name.invariant) ∙ ap (λ m. put_all as_before m (finmap.entries c.args.subscribe.now)) c.in_ok-after.ensures.ok
    ∙ put_all-wants_after c.args.subscribe.now c.args.unsubscribe.now c.args.before.now
