use Rattle.std.proofs.Common.{◌≡◌, ◌++◌, map, drop}
use Rattle.xds_script.specs.ModelSeen.{happening_of}
use Rattle.xds_world.specs.Played.{IsWorldOf}
use Rattle.xds_world.proofs.world.more.Given as goal

abbrev pub invariant-loop-event : goal.invariant-loop-event
invariant-loop-event g l =
    IsWorldOf g.A.Accept.accepts l.run.state (map happening_of l.run.events.items)
    × (map happening_of l.run.events.items ++ map happening_of (drop l.event-index l.events) ≡ l.fn.world ++ map happening_of l.events)
