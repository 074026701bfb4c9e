use Rattle.std.proofs.Common.{codes, map, string_bytes}
use Rattle.serde_json.specs.Find.{get}
use Rattle.serde_json.specs.View.{view}
use Rattle.xds_message.proofs.ReadGroups.{Reads-groups}
use Rattle.xds_message.proofs.writes.groups_field.Goals as goal

pub returns : goal.returns
returns c =
    Reads-groups (get (codes "groups") (view c.args.value.now)) (map string_bytes c.in_ok-texts.texts.items) _ c.groups_from.result c.in_ok-texts.ensures (rw c.as_slice.ensures.value at c.groups_from.ensures)
