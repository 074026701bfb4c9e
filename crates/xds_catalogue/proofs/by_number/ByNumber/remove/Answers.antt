use Rattle.std.proofs.Common.{sym, ap, ◌∙◌}
use Rattle.std.specs.Prelude.{is_some}
use Rattle.std.specs.FinMap as finmap
use Rattle.xds_catalogue.proofs.ByNumbers.{get-numbered, numbered-remove, remove_absent}
use Rattle.xds_catalogue.proofs.by_number.ByNumber.remove.Goals as goal

pub returns-clause-removed : goal.returns-clause-removed
returns-clause-removed g c = numbered-remove c.self.inside.values c.remove.new.self c.args.number c.remove.ensures.updates ∙ ap (λ m. finmap.remove m c.args.number) c.self.view_is

pub returns-clause-old : goal.returns-clause-old
returns-clause-old g c = c.is_some.ensures ∙ ap is_some (c.remove.ensures.value ∙ sym (get-numbered c.self.inside.values c.args.number) ∙ ap (λ m. finmap.get m c.args.number) c.self.view_is)

pub returns-clause-none : goal.returns-clause-none
returns-clause-none g c = λ gone.
    numbered-remove c.self.inside.values c.remove.new.self c.args.number c.remove.ensures.updates ∙ ap (λ m. finmap.remove m c.args.number) c.self.view_is
    ∙ remove_absent c.args.self.now c.args.number (sym (c.is_some.ensures ∙ ap is_some (c.remove.ensures.value ∙ sym (get-numbered c.self.inside.values c.args.number) ∙ ap (λ m. finmap.get m c.args.number) c.self.view_is)) ∙ gone)
