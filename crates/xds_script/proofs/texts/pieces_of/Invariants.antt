use Rattle.std.specs.Prelude.{◌≡◌, map, string_bytes}
use Rattle.xds_script.proofs.texts.pieces_of.Given as goal

-- the pieces that came are kept
abbrev pub invariant-loop-text : goal.invariant-loop-text
invariant-loop-text l = goal.iterator-loop-text.can_next l.text-iterator × goal.iterator-loop-text.is_finite l.text-iterator × (map string_bytes l.texts.items ≡ map (λ x. x.now) l.yielded)
