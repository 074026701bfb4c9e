use Rattle.std.specs.Prelude.{◌≡◌, encode_utf8, flat_map, string_bytes}
use Rattle.xds_explain.specs.Shown.{shown_char}
use Rattle.xds_explain.proofs.texts.beginning.Given as goal

-- the characters that came are shown
abbrev pub invariant-loop-c : goal.invariant-loop-c
invariant-loop-c l =
    goal.iterator-loop-c.can_next l.c-iterator × goal.iterator-loop-c.is_finite l.c-iterator × (string_bytes l.shown ≡ flat_map (λ c. encode_utf8 (shown_char c)) l.yielded)
