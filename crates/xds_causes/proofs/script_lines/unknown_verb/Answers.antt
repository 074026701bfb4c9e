use Rattle.std.proofs.Common.{◌∙◌, ◌++◌, ℕ, List, ap, codes}
use Rattle.xds_causes.proofs.Joins.{joined_three}
use Rattle.xds_causes.proofs.script_lines.unknown_verb.Goals as goal

pub returns-clause-told : goal.returns-clause-told
returns-clause-told c =
    c.in_ok-format.ensures.ok ∙ ap (λ (x : List ℕ). codes "\"" ++ x) (joined_three c.args.word.now (codes "\"") (codes " is no command of a script"))
