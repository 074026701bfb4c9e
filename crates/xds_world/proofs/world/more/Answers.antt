use Rattle.std.proofs.Common.{map}
use Rattle.xds_script.specs.ModelSeen.{happening_of}
use Rattle.xds_world.proofs.Headline.{headline}
use Rattle.xds_world.proofs.world.more.Goals as goal

pub returns-clause-headline : goal.returns-clause-headline
returns-clause-headline g c = headline g.A.Accept.accepts (map happening_of c.loop-event.run.events.items) c.loop-event.invariant.0.put
