use Rattle.std.proofs.Common.{◌≡◌, take, map, string_bytes}
use Rattle.xds_program.proofs.option_values.copied.Given as goal

abbrev pub invariant-loop-word : goal.invariant-loop-word
invariant-loop-word l = map string_bytes l.copies.items ≡ map (λ w. w.now) (take l.word-index l.words)
