use Rattle.std.proofs.Common.{◌≡◌, ◌++◌, map}
use Rattle.std.specs.FinMap as finmap
use Rattle.xds_resource.specs.Names.{pairs}
use Rattle.xds_events.proofs.changed.values.Given as goal

-- what is pushed, and what is left, is all
abbrev pub invariant-loop-name : goal.invariant-loop-name
invariant-loop-name g l = l.writes.items ++ map (λ e. e.1) (pairs l._name-iterator) ≡ finmap.values l.changed
