use Rattle.std.proofs.Common.{sym, ap, ◌∙◌}
use Rattle.std.specs.FinMap as finmap
use Rattle.xds_resource.proofs.NameMaps.{get-seen, seen-removed}
use Rattle.xds_resource.proofs.names.NameMap.remove.Goals as goal

pub returns-clause-removed : goal.returns-clause-removed
returns-clause-removed g c = seen-removed c.self.inside.by_name c.remove.new.self c.args.name.now c.remove.ensures.updates ∙ ap (λ m. finmap.remove m c.args.name.now) c.self.view_is

pub returns-clause-old : goal.returns-clause-old
returns-clause-old g c = c.remove.ensures.value ∙ sym (get-seen c.self.inside.by_name c.args.name.now) ∙ ap (λ m. finmap.get m c.args.name.now) c.self.view_is
