use Rattle.std.proofs.Common.{subst, sym}
use Rattle.xds_program.specs.Words.{Finds}
use Rattle.xds_program.proofs.option_values.got.Goals as goal

pub returns-in_err-address : goal.returns-in_err-address
returns-in_err-address c = subst (Finds _) (sym c.from_residual.ensures) (λ p h. c.in_err-address.ensures p.0 h.0)
