use Rattle.std.proofs.Common.{ap, ◌∙◌}
use Rattle.std.specs.FinMap as finmap
use Rattle.xds_resource.specs.Names.{put_all}
use Rattle.xds_cache.specs.Parts.{added}
use Rattle.xds_cache.proofs.Making.{put_all-cache_after}
use Rattle.xds_cache.proofs.shelf.cache_after.Goals as goal

pub returns-clause-ok : goal.returns-clause-ok
returns-clause-ok c =
    c.in_ok-next.ensures.ok ∙ ap (λ m. put_all (added c.args.kind c.args.wants.now) m (finmap.entries c.args.stated.now)) c.in_ok-beside.ensures.ok
    ∙ put_all-cache_after c.args.kind c.args.wants.now c.args.whole c.args.removed.now c.args.stated.now c.args.cache.now
