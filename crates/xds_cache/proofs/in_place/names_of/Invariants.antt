use Rattle.std.proofs.Common.{◌≡◌, ◌++◌, map, string_bytes}
use Rattle.std.specs.FinMap as finmap
use Rattle.xds_resource.specs.Names.{pairs}
use Rattle.xds_cache.proofs.in_place.names_of.Given as goal

-- what is made and what is left are all
abbrev pub invariant-loop-name : goal.invariant-loop-name
invariant-loop-name l = map string_bytes l.names.items ++ map (λ e. e.0) (pairs l.name-iterator) ≡ finmap.keys l.stated
