use Rattle.std.proofs.Common.{◌≡◌, map, drop, true}
use Rattle.xds_check.specs.Kept.{without_each}
use Rattle.xds_check.proofs.marks.unmark_stated.Given as goal

-- what is left decides
abbrev pub invariant-loop-statement : goal.invariant-loop-statement
invariant-loop-statement l =
    without_each (λ _. true) l.marks (map (λ x. x.name) (drop l.statement-index l.statements)) ≡ without_each (λ _. true) l.initial.marks (map (λ x. x.name) l.statements)
