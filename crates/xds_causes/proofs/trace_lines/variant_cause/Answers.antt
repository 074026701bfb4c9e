use Rattle.std.proofs.Common.{◌∙◌, ◌++◌, ℕ, List, ap, codes}
use Rattle.xds_causes.specs.ToldLines.{numbers_text}
use Rattle.xds_causes.proofs.Joins.{joined_four}
use Rattle.xds_causes.proofs.trace_lines.variant_cause.Goals as goal

pub returns-clause-told : goal.returns-clause-told
returns-clause-told c =
    let middle = codes " isn't the number " in
    c.in_ok-format.ensures.ok ∙ ap (λ (known : List ℕ). codes "\"" ++ (c.args.kind.now ++ (codes "\"" ++ (middle ++ known)))) c.numbers_text-known.ensures
    ∙ ap (λ (x : List ℕ). codes "\"" ++ x) (joined_four c.args.kind.now (codes "\"") middle (numbers_text c.args.is_request))
