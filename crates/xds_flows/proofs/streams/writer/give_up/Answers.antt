use Rattle.std.proofs.Common.{inr, refl}
use Rattle.xds_flows.proofs.streams.writer.give_up.Goals as goal

pub returns-in-Ok-Some : goal.returns-in-Ok-Some
returns-in-Ok-Some g c = inr (c.in-Ok-Some.draft, refl, rw c.in-Ok-Some.field-0-is at c.in-Ok-Some.ensures)
