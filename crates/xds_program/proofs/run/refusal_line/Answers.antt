use Rattle.std.proofs.Common.{ap, sym, ◌∙◌, inl, inr}
use Rattle.xds_program.specs.Outcomes.{refusal_line}
use Rattle.xds_program.proofs.Telling.{device_text, memory_text}
use Rattle.xds_program.proofs.run.refusal_line.Goals as goal

pub returns-in-Device : goal.returns-in-Device
returns-in-Device c = device_text ∙ ap refusal_line (sym c.in-Device.is)

pub returns-in_default : goal.returns-in_default
returns-in_default c = elim c.requires [
  | inl memory ↦ memory_text ∙ ap refusal_line (sym memory)
  | inr device ↦ absurd (c.in_default.not-Device device)
]
