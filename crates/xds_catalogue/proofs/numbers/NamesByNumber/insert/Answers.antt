use Rattle.std.proofs.Common.{ap, ◌∙◌}
use Rattle.std.specs.Arc.{arc_str_bytes}
use Rattle.std.specs.FinMap as finmap
use Rattle.xds_catalogue.proofs.MapViews.{by_number-insert}
use Rattle.xds_catalogue.proofs.numbers.NamesByNumber.insert.Goals as goal

pub returns-clause-ok : goal.returns-clause-ok
returns-clause-ok c = by_number-insert arc_str_bytes c.self.inside.names c.insert.new.self c.args.number c.args.name c.in_ok-insert.ensures.updates ∙ ap (λ m. finmap.insert m c.args.number (arc_str_bytes c.args.name)) c.self.view_is
