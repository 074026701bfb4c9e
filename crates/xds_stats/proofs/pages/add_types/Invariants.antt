use Rattle.std.proofs.Common.{◌≡◌, drop, string_bytes}
use Rattle.xds_stats.specs.Pages.{with_each, with_types}
use Rattle.xds_stats.proofs.pages.add_types.Given as goal

-- what is left of the replicas makes of the text what all of them make of the first
abbrev pub invariant-loop-shown : goal.invariant-loop-shown
invariant-loop-shown l =
    with_each (with_types l.of) (string_bytes l.metrics.text) (drop l.shown-index l.replicas) ≡ with_each (with_types l.of) (string_bytes l.initial.metrics.text) l.replicas
