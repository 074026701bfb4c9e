use Rattle.std.proofs.Common.{[], map, Bor, ◌∙◌}
use Rattle.xds_resource.specs.Writes.{StampedWrite}
use Rattle.xds_sessions.proofs.Bodies.{all_added}
use Rattle.xds_sessions.proofs.rest.texts_of.Goals as goal

abbrev seen : Bor StampedWrite → StampedWrite
seen w = w.now

pub returns-clause-ok : goal.returns-clause-ok
returns-clause-ok g c = c.in_ok-stated.ensures.ok ∙ c.in_ok-bodies.ensures.ok ∙ all_added (map seen c.args.writes.now) []
