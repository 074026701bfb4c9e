use Rattle.std.proofs.Common.{◌≡◌}
use Rattle.std.specs.FinMap as finmap
use Rattle.xds_resource.specs.Names.{pairs}
use Rattle.xds_sessions.specs.DeltaParts.{nothing_said, said_all}
use Rattle.xds_sessions.proofs.delta_response.say_all.Given as goal

-- what is left decides
abbrev pub invariant-loop-name : goal.invariant-loop-name
invariant-loop-name g l = said_all l.catalogue.entries l.all (pairs l.name-iterator) ≡ said_all l.catalogue.entries nothing_said (finmap.entries l.offer)
