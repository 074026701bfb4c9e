use Rattle.std.specs.Prelude.{map, string_bytes, length}
use Rattle.xds_script.proofs.Wishing.{IsEditedTo}
use Rattle.xds_script.proofs.texts.edits_in.Given as goal

abbrev pub invariant-loop-word : goal.invariant-loop-word
invariant-loop-word l = IsEditedTo (map string_bytes l.subscribe.items) (map string_bytes l.unsubscribe.items) l.left l.fn.words

abbrev pub decreases-loop-word : goal.decreases-loop-word
decreases-loop-word l = length l.left
