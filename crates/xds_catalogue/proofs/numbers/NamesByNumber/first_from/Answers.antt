use Rattle.std.proofs.Common.{ap, sym, subst, ◌∙◌, ◌≡◌, ◌≤◌, ℕ, Some, None}
use Rattle.std.specs.Option.{IfNone}
use Rattle.std.specs.Arc.{arc_str_bytes}
use Rattle.std.specs.FinMap as finmap
use Rattle.xds_catalogue.proofs.MapViews.{first-none, first-found, first-least}
use Rattle.xds_catalogue.proofs.numbers.NamesByNumber.first_from.Goals as goal

pub returns-in_err-number-clause-none : goal.returns-in_err-number-clause-none
returns-in_err-number-clause-none c =
    subst (λ o. IfNone o ((k : ℕ) → c.args.start ≤ k → finmap.get c.args.self.now k ≡ None)) (sym c.from_residual.ensures)
    (first-none arc_str_bytes c.self.inside.names c.range.result c.args.self.now c.args.start c.self.view_is (c.range.ensures.in_range tt) c.in_err-number.ensures.steps.0)

pub returns-clause-found : goal.returns-clause-found
returns-clause-found c =
    first-found arc_str_bytes c.self.inside.names c.range.result _ c.args.self.now c.args.start _ _ c.self.view_is (c.range.ensures.in_range tt) c.in_ok-number.ensures.steps ∙ ap Some (sym c.as_str.ensures.value)

pub returns-clause-least : goal.returns-clause-least
returns-clause-least c = first-least arc_str_bytes c.self.inside.names c.range.result _ c.args.self.now c.args.start _ _ c.self.view_is (c.range.ensures.in_range tt) c.in_ok-number.ensures.steps
