use Rattle.std.proofs.Common.{ap, ◌∙◌}
use Rattle.std.specs.FinMap as finmap
use Rattle.xds_catalogue.proofs.ByNumbers.{numbered-insert}
use Rattle.xds_catalogue.proofs.by_number.ByNumber.insert.Goals as goal

pub returns-clause-ok : goal.returns-clause-ok
returns-clause-ok g c = numbered-insert c.self.inside.values c.insert.new.self c.args.number c.args.value c.in_ok-insert.ensures.updates ∙ ap (λ m. finmap.insert m c.args.number c.args.value) c.self.view_is
