use Rattle.std.proofs.Common.{ap, ◌∙◌}
use Rattle.std.specs.Arc.{arc_str_bytes}
use Rattle.std.specs.FinMap as finmap
use Rattle.xds_catalogue.proofs.MapViews.{by_number-remove}
use Rattle.xds_catalogue.proofs.numbers.NamesByNumber.remove.Goals as goal

pub returns : goal.returns
returns c = by_number-remove arc_str_bytes c.self.inside.names c.remove.new.self c.args.number c.remove.ensures.updates ∙ ap (λ m. finmap.remove m c.args.number) c.self.view_is
