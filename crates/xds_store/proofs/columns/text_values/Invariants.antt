use Rattle.std.proofs.Common.{◌≡◌, take, map, string_bytes}
use Rattle.serde_json.specs.Data.{string}
use Rattle.serde_json.specs.View.{view}
use Rattle.xds_store.proofs.columns.text_values.Given as goal

abbrev pub invariant-loop-text : goal.invariant-loop-text
invariant-loop-text l = map view l.values.items ≡ map string (map string_bytes (take l.text-index l.texts))
