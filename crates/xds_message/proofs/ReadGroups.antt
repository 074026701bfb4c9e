-- The groups that are read from a list of texts are those that the field holds.
use Rattle.std.proofs.Common.{◌≡◌, ℕ, List, Option, Some, None, Result, Ok, refl, ap, ◌∙◌, subst}
use Rattle.serde_json.specs.Data.{Data}
use Rattle.xds_resource.specs.declared.refusal.Refusal.{Refusal}
use Rattle.xds_resource.specs.Fields.{first_of}
use Rattle.xds_resource.specs.Groups.{groups_of}
use Rattle.xds_json.specs.Spelling.{IsTexts, Reads}
use Rattle.xds_json.proofs.Lists.{Reads-same}
use Rattle.xds_json.proofs.OneField.{IsTexts-unique}
use Rattle.xds_message.specs.StampedWrites.{AreGroups}

-- a field whose two names are one
pub same_twice : (o : Option Data) → first_of o o ≡ o
same_twice None = refl
same_twice (Some d) = refl

pub Reads-groups : {X : Type 0} (o : Option Data) (texts : List (List ℕ)) (view_of : X → List (List ℕ)) (r : Result X Refusal) → IsTexts (first_of o o) texts → Reads (λ groups. groups_of texts ≡ Ok groups) view_of r
    → Reads (AreGroups o) view_of r
Reads-groups o texts view_of r twice h =
    let listed = subst (λ x. IsTexts x texts) (same_twice o) twice in
    Reads-same (λ groups. groups_of texts ≡ Ok groups) (AreGroups o) view_of r (λ groups is. (texts, listed, is)) (λ groups are. ap groups_of (IsTexts-unique o texts are.0 listed are.1) ∙ are.2) h
