use Rattle.std.proofs.Common.{◌≡◌, take, map, string_bytes}
use Rattle.json.specs.Value.{value_view}
use Rattle.serde_json.specs.Data.{string}
use Rattle.xds_json.specs.Ordered.{meaning}
use Rattle.xds_json.proofs.looking.texts_of.Given as goal

abbrev pub invariant-loop-item : goal.invariant-loop-item
invariant-loop-item l = map (λ v. meaning (value_view v)) (take l.item-index l.items.items) ≡ map string (map string_bytes l.texts.items)
