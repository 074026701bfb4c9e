use Rattle.std.proofs.Common.{sym, ap, ◌∙◌}
use Rattle.std.specs.FinMap as finmap
use Rattle.std.specs.Prelude.{string_bytes}
use Rattle.xds_resource.proofs.NameMaps.{get-seen, seen-inserted}
use Rattle.xds_resource.proofs.names.NameMap.insert.Goals as goal

pub returns-in-Ok-clause-ok : goal.returns-in-Ok-clause-ok
returns-in-Ok-clause-ok g c = seen-inserted c.self.inside.by_name c.insert.new.self c.args.name c.args.value c.in-Ok.ensures.updates ∙ ap (λ m. finmap.insert m (string_bytes c.args.name) c.args.value) c.self.view_is

pub returns-in-Ok-clause-old : goal.returns-in-Ok-clause-old
returns-in-Ok-clause-old g c = c.in-Ok.ensures.old ∙ sym (get-seen c.self.inside.by_name (string_bytes c.args.name)) ∙ ap (λ m. finmap.get m (string_bytes c.args.name)) c.self.view_is
