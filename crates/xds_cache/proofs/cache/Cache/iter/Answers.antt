use Rattle.std.proofs.Common.{ap, ◌∙◌}
use Rattle.std.specs.FinMap as finmap
use Rattle.xds_resource.specs.Names.{pairs}
use Rattle.xds_resource.proofs.NameMaps.{entries-seen}
use Rattle.xds_cache.proofs.cache.Cache.iter.Goals as goal

pub returns : goal.returns
returns c = ap pairs c.iter.ensures.rest ∙ entries-seen c.self.inside.by_name c.iter.ensures.ordered ∙ ap finmap.entries c.self.view_is
