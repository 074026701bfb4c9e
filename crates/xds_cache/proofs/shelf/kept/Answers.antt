use Rattle.std.proofs.Common.{false, ap, ◌∙◌}
use Rattle.std.specs.FinMap as finmap
use Rattle.xds_resource.specs.Names.{put_all}
use Rattle.xds_cache.specs.Parts.{left}
use Rattle.xds_cache.proofs.Making.{put_all-kept_of}
use Rattle.xds_cache.proofs.shelf.kept.Goals as goal

pub returns-clause-ok : goal.returns-clause-ok
returns-clause-ok c =
    c.in_ok-next.ensures.ok ∙ ap (λ r. put_all (left c.args.kind c.args.wants.now false r) finmap.empty (finmap.entries c.args.cache.now)) c.new-nothing.ensures
    ∙ put_all-kept_of c.args.kind c.args.wants.now c.args.cache.now
