-- The trace of a replica of a world. This project's own.
--     trace_at   the trace of what happened at a replica; none where there is no such replica
--     KeepsAt    a site's trace breaks no rule, nor do true lines at its end that nothing is owed
use Rattle.std.specs.Prelude.{ℕ, List, ◌++◌, map, All, option_map, Option, IfSome}
use Rattle.xds_resource.specs.declared.types.TypeName.{TypeName}
use Rattle.xds_world.specs.Worlds.{Site}
use Rattle.xds_check.specs.declared.line.Line.{Line}
use Rattle.xds_check.specs.declared.line.Line.TheVariants as lines
use Rattle.xds_check.specs.Rules.{NoneBroken}
use Rattle.xds_trace.specs.Making.{trace_of}
use Rattle.xds_trace.specs.Claims.{IsQuiet}

-- the trace of what happened at a replica; none where there is no such replica
abbrev pub trace_at : Option Site → Option (List Line)
trace_at site = option_map (λ s. trace_of s.journal) site

-- It breaks no rule, nor does it with lines at its end which say of streams that nothing is owed to them of a type, where that is so.
abbrev pub KeepsAt : Option Site → Type 0
KeepsAt site = IfSome site (λ s. (quiet : List (ℕ × TypeName)) → All (IsQuiet s.core) quiet → NoneBroken (trace_of s.journal ++ map (λ p. lines.Idle p.0 p.1) quiet))
