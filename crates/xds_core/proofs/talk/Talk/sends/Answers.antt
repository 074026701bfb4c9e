use Rattle.std.proofs.Common.{rules}
use Rattle.xds_core.specs.Talks.{due_in}
use Rattle.xds_core.proofs.talk.Talk.sends.Goals as goal

pub returns-then-sends_type-4 : goal.returns-then-sends_type-4
unfolding due_in
returns-then-sends_type-4 g c = search rules

pub returns-else-sends_type-4 : goal.returns-else-sends_type-4
unfolding due_in
returns-else-sends_type-4 g c = search rules
