use Rattle.std.proofs.Common.{subst, sym}
use Rattle.xds_program.specs.Words.{Finds}
use Rattle.xds_program.proofs.option_values.checked.Goals as goal

pub returns-in_err-task : goal.returns-in_err-task
returns-in_err-task c = subst (Finds _) (sym c.from_residual.ensures) (λ p h. c.in_err-task.ensures (p.0, p.1) (h.0, h.1, h.2))

pub returns-in_err-validate : goal.returns-in_err-validate
returns-in_err-validate c = subst (Finds _) (sym c.from_residual-in_err-validate.ensures) (λ p h. c.in_err-validate.ensures p.2 h.3)
