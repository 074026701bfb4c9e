use Rattle.std.proofs.Common.{◌≡◌, ◌++◌, length, map, string_bytes}
use Rattle.std.specs.Vec.Iter.{into_iter_items, into_iter_len}
use Rattle.serde_json.specs.Data.{string}
use Rattle.serde_json.specs.View.{view}
use Rattle.xds_json.proofs.fields.texts_in.Given as goal

abbrev pub invariant-loop-item : goal.invariant-loop-item
invariant-loop-item l =
    (map (λ t. string (string_bytes t)) l.texts.items ++ map view (into_iter_items l.item-iterator) ≡ map view l.fn.items.items)
    × (into_iter_len l.item-iterator ≡ length (into_iter_items l.item-iterator))
