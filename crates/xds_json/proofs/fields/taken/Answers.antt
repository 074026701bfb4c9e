use Rattle.std.proofs.Common.{sym, ap, ◌∙◌}
use Rattle.std.specs.Option.{option_map}
use Rattle.serde_json.specs.Find.{get}
use Rattle.serde_json.specs.View.{view}
use Rattle.serde_json.proofs.Views.{view-Object, view-lookup}
use Rattle.xds_json.proofs.fields.taken.Goals as goal

pub returns-in-Object : goal.returns-in-Object
returns-in-Object c =
    ap (option_map view) c.remove.ensures.value ∙ view-lookup c.args.key.now c.in-Object.members.entries
    ∙ sym (ap (get c.args.key.now) (ap view c.in-Object.is ∙ view-Object c.in-Object.members))
