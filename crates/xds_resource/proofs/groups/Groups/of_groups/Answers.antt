use Rattle.std.proofs.Common.{map, ap, ◌∙◌}
use Rattle.std.specs.String.{string_bytes}
use Rattle.std.specs.Arc.{arc_slice_items}
use Rattle.xds_resource.proofs.Grouping.{kept}
use Rattle.xds_resource.proofs.groups.Groups.of_groups.Goals as goal

pub invariant_of-result : goal.invariant_of-result
invariant_of-result c =
    kept (map string_bytes c.args.texts.now) (map string_bytes (arc_slice_items c.in_ok-from_vec.field-0)) c.requires (ap (map string_bytes) (c.in_ok-from_vec.ensures ∙ c.shrink_to_fit.ensures.items) ∙ c.in_ok-list.ensures.ok)
