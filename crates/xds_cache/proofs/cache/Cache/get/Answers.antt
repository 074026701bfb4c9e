use Rattle.std.proofs.Common.{sym, ap, ◌∙◌}
use Rattle.std.specs.FinMap as finmap
use Rattle.xds_resource.proofs.NameMaps.{get-seen}
use Rattle.xds_cache.proofs.cache.Cache.get.Goals as goal

pub returns : goal.returns
returns c = c.get.ensures.value ∙ sym (get-seen c.self.inside.by_name c.args.name.now) ∙ ap (λ m. finmap.get m c.args.name.now) c.self.view_is
