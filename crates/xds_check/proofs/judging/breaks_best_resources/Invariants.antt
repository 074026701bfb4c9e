use Rattle.std.proofs.Common.{◌≡◌, drop, not}
use Rattle.std.specs.List.{list_any}
use Rattle.xds_check.specs.Kept.{is_best_in}
use Rattle.xds_check.proofs.judging.breaks_best_resources.Given as goal

-- what is left decides
abbrev pub invariant-loop-statement : goal.invariant-loop-statement
invariant-loop-statement g l =
    list_any (λ x. not (is_best_in l.catalogue.entries x)) l.statements ≡ list_any (λ x. not (is_best_in l.catalogue.entries x)) (drop l.statement-index l.statements)
