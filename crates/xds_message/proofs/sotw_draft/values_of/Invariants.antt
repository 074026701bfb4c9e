use Rattle.std.proofs.Common.{◌≡◌, All, take, map}
use Rattle.serde_json.specs.View.{view}
use Rattle.xds_resource.specs.Resources.{value_of}
use Rattle.xds_message.specs.Drafts.{IsBodyText}
use Rattle.xds_message.proofs.sotw_draft.values_of.Given as goal

abbrev pub invariant-loop-body : goal.invariant-loop-body
invariant-loop-body l = (map view l.values.items ≡ map value_of (take l.body-index l.bodies)) × All IsBodyText (take l.body-index l.bodies)
