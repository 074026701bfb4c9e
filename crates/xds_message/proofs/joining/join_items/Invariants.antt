use Rattle.std.proofs.Common.{◌≡◌, ◌++◌, drop, map, string_bytes}
use Rattle.serde_json.specs.Data.{array}
use Rattle.serde_json.specs.View.{items_of}
use Rattle.serde_json.specs.Written.{compact_text, items_text}
use Rattle.xds_message.proofs.joining.join_items.Given as goal

-- what is written, and what is left to write
abbrev pub invariant-loop-item : goal.invariant-loop-item
invariant-loop-item g l =
    string_bytes l.out ++ items_text l.later (items_of (map g.I.Join.json (drop l.item-index l.items))) ≡ string_bytes l.fn.out ++ compact_text (array (items_of (map g.I.Join.json l.items)))
