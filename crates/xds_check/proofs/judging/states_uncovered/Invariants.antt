use Rattle.std.proofs.Common.{◌≡◌, map, drop, not}
use Rattle.std.specs.List.{list_any}
use Rattle.xds_check.specs.Kept.{is_covered_in}
use Rattle.xds_check.proofs.judging.states_uncovered.Given as goal

-- what is left decides
abbrev pub invariant-loop-statement : goal.invariant-loop-statement
invariant-loop-statement g l =
    list_any (λ name. not (is_covered_in l.catalogue.entries l.interest name)) (map (λ x. x.name) l.statements)
    ≡ list_any (λ name. not (is_covered_in l.catalogue.entries l.interest name)) (map (λ x. x.name) (drop l.statement-index l.statements))
