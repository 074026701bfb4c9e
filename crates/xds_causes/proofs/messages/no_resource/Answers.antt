use Rattle.std.proofs.Common.{◌∙◌, ◌++◌, ℕ, List, ap, codes, decimal}
use Rattle.xds_resource.specs.Refusals.{name_of, number_of}
use Rattle.xds_causes.proofs.Joins.{joined_three}
use Rattle.xds_causes.proofs.messages.no_resource.Goals as goal

pub returns-clause-told : goal.returns-clause-told
returns-clause-told c =
    let front = codes "\"body\" is no resource of the type: " in
    c.in_ok-format.ensures.ok ∙ (λ i. front ++ (decimal (c.number-number.ensures i) ++ (codes " " ++ c.name-name.ensures i)))
    ∙ ap (λ (x : List ℕ). front ++ x) (joined_three (decimal (number_of c.args.refusal)) (codes " ") (name_of c.args.refusal))
