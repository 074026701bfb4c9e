use Rattle.std.specs.Prelude.{◌≡◌, flat_map, string_bytes}
use Rattle.xds_explain.specs.Shown.{xml_char}
use Rattle.xds_explain.proofs.texts.escaped.Given as goal

-- the characters that came are shown
abbrev pub invariant-loop-c : goal.invariant-loop-c
invariant-loop-c l =
    goal.iterator-loop-c.can_next l.c-iterator × goal.iterator-loop-c.is_finite l.c-iterator × (string_bytes l.shown ≡ flat_map xml_char l.yielded)
