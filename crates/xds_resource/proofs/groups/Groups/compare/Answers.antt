use Rattle.std.proofs.Common.{◌∙◌}
use Rattle.xds_resource.specs.Writes.{groups_cmp}
use Rattle.xds_resource.proofs.Grouping.{groups_cmp-strings}
use Rattle.xds_resource.proofs.groups.Groups.compare.Goals as goal

pub returns : goal.returns
returns c = c.cmp.ensures ∙ groups_cmp-strings c.texts.result.now c.texts-2.result.now ∙ (λ i. groups_cmp (c.texts.ensures i) (c.texts-2.ensures i))
