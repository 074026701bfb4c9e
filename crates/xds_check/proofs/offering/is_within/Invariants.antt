use Rattle.std.proofs.Common.{◌≡◌, false}
use Rattle.std.specs.FinMap as finmap
use Rattle.std.specs.List.{list_all}
use Rattle.std.specs.Option.{option_map_or}
use Rattle.xds_resource.specs.Names.{pairs}
use Rattle.xds_ledger.specs.Offers.{same_due}
use Rattle.xds_check.proofs.offering.is_within.Given as goal

-- what is left decides
abbrev pub invariant-loop-name : goal.invariant-loop-name
invariant-loop-name l =
    list_all (λ e. option_map_or (same_due e.1) (finmap.get l.other e.0) false) (finmap.entries l.offer) ≡ list_all (λ e. option_map_or (same_due e.1) (finmap.get l.other e.0) false) (pairs l.name-iterator)
