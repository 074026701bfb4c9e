use Rattle.std.specs.Prelude.{map, string_bytes, length}
use Rattle.xds_script.proofs.Wishing.{IsNamedTo}
use Rattle.xds_script.proofs.texts.names_in.Given as goal

abbrev pub invariant-loop-word : goal.invariant-loop-word
invariant-loop-word l = IsNamedTo (map string_bytes l.names.items) l.left l.fn.words

abbrev pub decreases-loop-word : goal.decreases-loop-word
decreases-loop-word l = length l.left
