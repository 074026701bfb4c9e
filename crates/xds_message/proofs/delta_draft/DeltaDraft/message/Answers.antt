use Rattle.std.proofs.Common.{List, All, map, subst}
use Rattle.xds_message.specs.Drafts.{DraftedDelta, DraftedResource, IsBodyText, AreSound, drafted_resource, delta_message_of, IsSoundDelta}
use Rattle.xds_message.specs.DeltaMessages.{VersionedResource}
use Rattle.xds_message.proofs.Lists.{map-twice}
use Rattle.xds_message.proofs.DraftLemmas.{AreSound-each}
use Rattle.xds_message.proofs.delta_draft.DeltaDraft.message.Goals as goal

pub returns-clause-sound : goal.returns-clause-sound
returns-clause-sound c =
    let sound = AreSound-each (λ (r : DraftedResource). r.body) c.as_slice.result.now c.in_ok-resources_of.ensures.sound in
    let moved = map-twice drafted_resource (λ (r : VersionedResource). r.resource) c.as_slice.result.now in
    subst (λ (m : DraftedDelta). IsSoundDelta (delta_message_of m)) c.self.view_is
    (subst (λ (rs : List DraftedResource). AreSound (map (λ (r : VersionedResource). r.resource) (map drafted_resource rs))) c.as_slice.ensures.value (subst AreSound moved sound))

pub returns-clause-texts : goal.returns-clause-texts
returns-clause-texts c =
    subst (λ (m : DraftedDelta). All (λ (r : DraftedResource). IsBodyText r.body) m.resources) c.self.view_is
    (subst (λ (rs : List DraftedResource). All (λ (r : DraftedResource). IsBodyText r.body) rs) c.as_slice.ensures.value c.in_ok-resources_of.ensures.sound)
