use Rattle.std.proofs.Common.{sym, ap, ◌∙◌}
use Rattle.std.specs.FinMap as finmap
use Rattle.xds_catalogue.proofs.ByNumbers.{get-numbered}
use Rattle.xds_catalogue.proofs.by_number.ByNumber.get.Goals as goal

pub returns : goal.returns
returns g c = c.get.ensures.value ∙ sym (get-numbered c.self.inside.values c.args.number) ∙ ap (λ m. finmap.get m c.args.number) c.self.view_is
