use Rattle.std.proofs.Common.{sym, ap, ◌∙◌}
use Rattle.std.specs.Option.{option_map}
use Rattle.serde_json.specs.Find.{as_array}
use Rattle.serde_json.specs.View.{view}
use Rattle.serde_json.proofs.Views.{view-Array}
use Rattle.xds_json.proofs.Lists.{Reads-texts}
use Rattle.xds_json.proofs.fields.taken_texts.Goals as goal

pub returns-in-Some-Array : goal.returns-in-Some-Array
returns-in-Some-Array c =
    let is_array = ap view c.in-Some-Array.field-0-is ∙ view-Array c.in-Some-Array.items in
    let found = sym (ap (option_map view) c.in-Some-Array.is) ∙ c.set_in.ensures in
    Reads-texts _ (view c.in-Some-Array.field-0) c.in-Some-Array.items.items _ c.texts_in.result found (sym (ap as_array is_array)) (rw c.in-Some-Array.items-is at c.texts_in.ensures)
