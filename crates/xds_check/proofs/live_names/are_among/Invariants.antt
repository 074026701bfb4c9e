use Rattle.std.proofs.Common.{◌≡◌, map}
use Rattle.std.specs.FinMap as finmap
use Rattle.std.specs.List.{list_all}
use Rattle.xds_resource.specs.Names.{pairs}
use Rattle.xds_check.specs.LiveNames.{stands}
use Rattle.xds_check.proofs.live_names.are_among.Given as goal

-- what is left decides
abbrev pub invariant-loop-name : goal.invariant-loop-name
invariant-loop-name l = list_all (stands l.others) (finmap.keys l.names) ≡ list_all (stands l.others) (map (λ e. e.0) (pairs l.name-iterator))
