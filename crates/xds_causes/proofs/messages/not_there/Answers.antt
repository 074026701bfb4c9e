use Rattle.std.proofs.Common.{◌∙◌, ◌++◌, ℕ, List, ap, codes}
use Rattle.xds_causes.proofs.Joins.{joined_three}
use Rattle.xds_causes.proofs.messages.not_there.Goals as goal

pub returns-clause-told : goal.returns-clause-told
returns-clause-told c =
    c.in_ok-format.ensures.ok ∙ ap (λ (x : List ℕ). codes "there is no \"" ++ x) (joined_three c.args.name.now (codes "\": ") c.args.shape.now)
