use Rattle.std.proofs.Common.{arith, Some, map, sym, ap, ◌∙◌}
use Rattle.std.specs.Option.{option_map}
use Rattle.serde_json.specs.View.{view}
use Rattle.serde_json.proofs.Views.{view-Array}
use Rattle.xds_message.proofs.BatchLemmas.{Reads-batch}
use Rattle.xds_message.proofs.batch.batch_of.Goals as goal

pub returns-in-Some-Array : goal.returns-in-Some-Array
returns-in-Some-Array c =
    let is_array = ap view c.in-Some-Array.field-0-is ∙ view-Array c.in-Some-Array.items in
    let found = sym (ap Some is_array) ∙ sym (ap (option_map view) c.in-Some-Array.is) ∙ c.taken_field.ensures in
    Reads-batch (view c.args.value) (map view c.in-Some-Array.items.items) _ c.batch_of_each.result (grind arith) found (rw c.in-Some-Array.items-is at c.batch_of_each.ensures)
