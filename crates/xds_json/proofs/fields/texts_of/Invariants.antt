use Rattle.std.proofs.Common.{◌≡◌, take, map, string_bytes}
use Rattle.serde_json.specs.Data.{string}
use Rattle.serde_json.specs.View.{view}
use Rattle.xds_json.proofs.fields.texts_of.Given as goal

abbrev pub invariant-loop-item : goal.invariant-loop-item
invariant-loop-item l = map view (take l.item-index l.items.items) ≡ map string (map string_bytes l.texts.items)
