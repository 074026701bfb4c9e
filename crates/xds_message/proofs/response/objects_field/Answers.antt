use Rattle.std.proofs.Common.{Some, map, sym, ap, ◌∙◌}
use Rattle.std.specs.Option.{option_map}
use Rattle.serde_json.specs.View.{view}
use Rattle.serde_json.proofs.Views.{view-Array}
use Rattle.xds_json.proofs.Lists.{Reads-objects}
use Rattle.xds_message.proofs.response.objects_field.Goals as goal

pub returns-in-Some-Array : goal.returns-in-Some-Array
returns-in-Some-Array c =
    let is_array = ap view c.in-Some-Array.field-0-is ∙ view-Array c.in-Some-Array.values in
    let found = sym (ap Some is_array) ∙ sym (ap (option_map view) c.in-Some-Array.is) ∙ c.taken_field.ensures in
    Reads-objects _ (map view c.in-Some-Array.values.items) _ c.only_objects.result found (rw c.in-Some-Array.values-is at c.only_objects.ensures)
