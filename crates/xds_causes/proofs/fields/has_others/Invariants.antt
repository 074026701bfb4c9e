use Rattle.std.proofs.Common.{◌≡◌, drop}
use Rattle.serde_json.specs.View.{items_view}
use Rattle.xds_causes.specs.Told.{has_others}
use Rattle.xds_causes.proofs.fields.has_others.Given as goal

-- what is left decides
abbrev pub invariant-loop-value : goal.invariant-loop-value
invariant-loop-value l = has_others (items_view (drop l.value-index l.value-items)) ≡ has_others (items_view l.value-items)
