use Rattle.std.proofs.Common.{◌≡◌, map, drop}
use Rattle.std.specs.FinMap as finmap
use Rattle.xds_resource.specs.Names.{put_each}
use Rattle.xds_sources.specs.References.{leads_of}
use Rattle.xds_upkeep.specs.Linting.{leads_line, lines_of, marked}
use Rattle.xds_upkeep.proofs.linting.lines_of.Given as goal

-- what is left decides
abbrev pub invariant-loop-one : goal.invariant-loop-one
invariant-loop-one l = put_each marked l.lines (map leads_line (map leads_of (drop l.one-index l.one-items))) ≡ lines_of l.live
