use Rattle.std.proofs.Common.{ap, ◌∙◌}
use Rattle.std.specs.FinMap as finmap
use Rattle.xds_resource.proofs.NameMaps.{seen-removed}
use Rattle.xds_cache.proofs.cache.Cache.remove.Goals as goal

pub returns : goal.returns
returns c = seen-removed c.self.inside.by_name c.remove.new.self c.args.name.now c.remove.ensures.updates ∙ ap (λ m. finmap.remove m c.args.name.now) c.self.view_is
