use Rattle.std.proofs.Common.{◌∙◌, inl, inr, sym}
use Rattle.xds_program.proofs.Ports.{above}
use Rattle.xds_program.proofs.wrong_values.wrong_port.Goals as goal

pub returns-then-not-has_ports : goal.returns-then-not-has_ports
returns-then-not-has_ports c = (_, _, c.in-Some-Some-Some.ensures, inl c.in-Some-Some-Some.ensures', above _ _ c.if-not-has_ports.true c.has_ports.ensures)

pub returns-then-not-has_ports-2 : goal.returns-then-not-has_ports-2
returns-then-not-has_ports-2 c = (_, _, c.in-Some-Some-Some.ensures, inr c.in-Some-Some-Some.ensures'', above _ _ c.if-not-has_ports-2.true c.has_ports-2.ensures)

pub returns-then-not-are_apart : goal.returns-then-not-are_apart
returns-then-not-are_apart c = (
  _,
  _,
  _,
  c.in-Some-Some-Some.ensures,
  c.in-Some-Some-Some.ensures',
  c.in-Some-Some-Some.ensures'',
  sym c.are_apart.ensures ∙ c.if-not-are_apart.true,
)

pub returns-else-is_alone : goal.returns-else-is_alone
returns-else-is_alone c = (
  _,
  _,
  _,
  c.number-4.result,
  c.in-Some-Some-Some.ensures,
  c.in-Some-Some-Some.ensures',
  c.in-Some-Some-Some.ensures'',
  c.number-4.ensures,
  sym c.is_alone.ensures ∙ c.if-is_alone.false,
)
