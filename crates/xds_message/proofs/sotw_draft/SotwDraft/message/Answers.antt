use Rattle.std.proofs.Common.{List, ℕ, All, map, subst}
use Rattle.xds_resource.specs.Resources.{value_of}
use Rattle.xds_message.specs.Drafts.{Drafted, AreSound, IsBodyText, message_of, IsSoundResponse}
use Rattle.xds_message.proofs.DraftLemmas.{AreSound-each}
use Rattle.xds_message.proofs.sotw_draft.SotwDraft.message.Goals as goal

pub returns-clause-sound : goal.returns-clause-sound
returns-clause-sound c =
    let sound = AreSound-each (λ b. b) c.as_slice.result.now c.in_ok-values_of.ensures.sound in
    subst (λ (m : Drafted). IsSoundResponse (message_of m)) c.self.view_is (subst (λ (bs : List (List ℕ)). AreSound (map value_of bs)) c.as_slice.ensures.value sound)

pub returns-clause-texts : goal.returns-clause-texts
returns-clause-texts c =
    subst (λ (m : Drafted). All IsBodyText m.bodies) c.self.view_is (subst (λ (bs : List (List ℕ)). All IsBodyText bs) c.as_slice.ensures.value c.in_ok-values_of.ensures.sound)
