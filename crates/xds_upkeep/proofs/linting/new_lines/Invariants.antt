use Rattle.std.proofs.Common.{◌≡◌, ◌++◌, string_bytes}
use Rattle.std.specs.FinMap as finmap
use Rattle.xds_resource.specs.Names.{pairs}
use Rattle.xds_upkeep.specs.Linting.{new_lines}
use Rattle.xds_upkeep.proofs.linting.new_lines.Given as goal

-- what is told and what is left are all
abbrev pub invariant-loop-line : goal.invariant-loop-line
invariant-loop-line l = string_bytes l.text ++ new_lines l.before (pairs l.line-iterator) ≡ new_lines l.before (finmap.entries l.after)
