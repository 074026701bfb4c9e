use Rattle.std.proofs.Common.{sym, ap, ◌∙◌}
use Rattle.std.specs.FinMap as finmap
use Rattle.xds_catalogue.proofs.ByNumbers.{get-numbered, numbered-remove}
use Rattle.xds_catalogue.proofs.by_number.ByNumber.take_out.Goals as goal

pub returns-clause-taken : goal.returns-clause-taken
returns-clause-taken g c = numbered-remove c.self.inside.values c.remove.new.self c.args.number c.remove.ensures.updates ∙ ap (λ m. finmap.remove m c.args.number) c.self.view_is

pub returns-clause-old : goal.returns-clause-old
returns-clause-old g c = c.remove.ensures.value ∙ sym (get-numbered c.self.inside.values c.args.number) ∙ ap (λ m. finmap.get m c.args.number) c.self.view_is
