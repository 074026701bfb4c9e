use Rattle.std.proofs.Common.{sym, ap, ◌∙◌}
use Rattle.std.specs.FinMap as finmap
use Rattle.xds_resource.specs.Names.{put_some}
use Rattle.xds_resource.proofs.NameMaps.{seen-inserted}
use Rattle.xds_cache.proofs.cache.Cache.put.Goals as goal

pub returns-in_ok-insert-clause-ok : goal.returns-in_ok-insert-clause-ok
returns-in_ok-insert-clause-ok c =
    seen-inserted c.self.inside.by_name c.insert.new.self c.in_ok-name.name c.in-Some.holding c.in_ok-insert.ensures.updates
    ∙ (λ i. finmap.insert (c.self.view_is i) (c.in_ok-name.ensures.ok i) c.in-Some.holding) ∙ ap (put_some c.args.self.now c.args.name.now) (sym c.in-Some.is)
