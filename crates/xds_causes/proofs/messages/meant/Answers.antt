use Rattle.std.proofs.Common.{◌∙◌, ◌++◌, ℕ, List, ap, codes}
use Rattle.xds_resource.specs.Types.{row}
use Rattle.xds_causes.proofs.Joins.{joined_four}
use Rattle.xds_causes.proofs.messages.meant.Goals as goal

pub returns-clause-told : goal.returns-clause-told
returns-clause-told c =
    let front = codes "typeUrl \"" in
    let middle = codes "\" is none that is known; did you mean \"" in
    let end = codes "\"?" in
    c.in_ok-format.ensures.ok ∙ ap (λ (known : List ℕ). front ++ (c.args.url.now ++ (middle ++ (known ++ end)))) c.url-known.ensures
    ∙ ap (λ (x : List ℕ). front ++ x) (joined_four c.args.url.now middle (row c.args.kind).url end)
