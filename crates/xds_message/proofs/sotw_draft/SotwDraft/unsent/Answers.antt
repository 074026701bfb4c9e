use Rattle.std.proofs.Common.{◌≤◌, length, map, subst, sym}
use Rattle.xds_frames.specs.Frames.{longest}
use Rattle.xds_message.specs.Drafts.{Drafted, body_text}
use Rattle.xds_message.specs.Joined.{with_commas}
use Rattle.xds_message.proofs.UnsentLemmas.{middle_fits}
use Rattle.xds_message.proofs.sotw_draft.SotwDraft.unsent.Goals as goal

pub around-requires : goal.around-requires
around-requires c =
    subst (λ (m : Drafted). length (with_commas (map body_text m.bodies)) ≤ longest) (sym c.self.view_is) (middle_fits _ _ _ _ longest c.in_ok-head.ensures.text c.requires)
