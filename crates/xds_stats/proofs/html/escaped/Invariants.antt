use Rattle.std.specs.Prelude.{◌≡◌, flat_map, string_bytes}
use Rattle.xds_stats.specs.Html.{html_char}
use Rattle.xds_stats.proofs.html.escaped.Given as goal

-- the characters that came are shown
abbrev pub invariant-loop-c : goal.invariant-loop-c
invariant-loop-c l =
    goal.iterator-loop-c.can_next l.c-iterator × goal.iterator-loop-c.is_finite l.c-iterator × (string_bytes l.shown ≡ flat_map html_char l.yielded)
