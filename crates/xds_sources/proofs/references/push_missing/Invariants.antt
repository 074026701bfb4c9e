use Rattle.std.proofs.Common.{◌≡◌, ◌++◌, map, drop}
use Rattle.xds_sources.specs.References.{leads_of, refers_of, missing}
use Rattle.xds_sources.proofs.references.push_missing.Given as goal

-- what is found and what is left are all
abbrev pub invariant-loop-reference : goal.invariant-loop-reference
invariant-loop-reference l =
    map leads_of l.found.items ++ missing l.held l.from (map refers_of (drop l.reference-index l.references.items)) ≡ map leads_of l.initial.found.items ++ missing l.held l.from (map refers_of l.references.items)
