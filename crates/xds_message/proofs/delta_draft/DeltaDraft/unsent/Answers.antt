use Rattle.std.proofs.Common.{◌≤◌, length, map, subst, sym}
use Rattle.xds_frames.specs.Frames.{longest}
use Rattle.xds_message.specs.Drafts.{DraftedDelta}
use Rattle.xds_message.specs.Joined.{with_commas}
use Rattle.xds_message.specs.Pieces.{resource_text}
use Rattle.xds_message.proofs.UnsentLemmas.{middle_fits}
use Rattle.xds_message.proofs.delta_draft.DeltaDraft.unsent.Goals as goal

pub around_resources-requires : goal.around_resources-requires
around_resources-requires c =
    subst (λ (m : DraftedDelta). length (with_commas (map resource_text m.resources)) ≤ longest) (sym c.self.view_is) (middle_fits _ _ _ _ longest c.in_ok-head.ensures.text c.requires)
