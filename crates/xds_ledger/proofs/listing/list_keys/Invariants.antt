use Rattle.std.proofs.Common.{◌≡◌, map}
use Rattle.std.specs.FinMap as finmap
use Rattle.xds_resource.specs.Names.{pairs}
use Rattle.xds_ledger.specs.Lists.{with_names}
use Rattle.xds_ledger.proofs.listing.list_keys.Given as goal

-- what is left decides
abbrev pub invariant-loop-name : goal.invariant-loop-name
invariant-loop-name g l = with_names l.all (map (λ e. e.0) (pairs l.name-iterator)) ≡ with_names l.initial.all (finmap.keys l.names)
