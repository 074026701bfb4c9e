-- A value spells one message of each kind of the incremental variant at most.
use Rattle.std.proofs.Common.{◌≡◌, List, [], ◌∷◌, Option, Some, refl, sym, ◌∙◌, subst}
use Rattle.std.specs.List.{AllZip}
use Rattle.std.specs.FinMap as finmap
use Rattle.serde_json.specs.Data.{Data, object}
use Rattle.xds_json.specs.Spelling.{set_value}
use Rattle.xds_message.specs.Messages.{SpellsIdentity, SpellsFailure}
use Rattle.xds_json.specs.Versions.{VersionMap, IsVersions, text_members}
use Rattle.xds_message.specs.DeltaMessages.{DeltaRequest, DeltaResponse, VersionedResource, SpellsDeltaRequest, SpellsDeltaResponse, SpellsResource, IsResources}
use Rattle.xds_message.proofs.BatchLemmas.{same_items}
use Rattle.xds_json.proofs.Lists.{IsArrayOf}
use Rattle.xds_json.proofs.OneField.{IsOrDefault-unique, IsText-unique, IsTexts-unique, IsInner-unique, SpellsIdentity-unique, SpellsFailure-unique}
use Rattle.xds_json.proofs.VersionLemmas.{text_members-injective}

same_versions : (d : Data) (m n : VersionMap) → d ≡ object (text_members (finmap.entries m)) → d ≡ object (text_members (finmap.entries n)) → m ≡ n
same_versions d m n p q = let same = sym p ∙ q in finmap.same_entries_map m n (text_members-injective (finmap.entries m) (finmap.entries n) cc)

IsVersions-unique : (o : Option Data) (m n : VersionMap) → IsVersions o m → IsVersions o n → m ≡ n
IsVersions-unique o m n p q = IsOrDefault-unique finmap.empty _ same_versions (set_value o) m n p q

pub SpellsDeltaRequest-unique : (d : Data) (m n : DeltaRequest) → SpellsDeltaRequest d m → SpellsDeltaRequest d n → m ≡ n
SpellsDeltaRequest-unique d m n p q =
    let node = IsInner-unique SpellsIdentity SpellsIdentity-unique _ m.node n.node p.node q.node in
    let type_url = IsText-unique _ m.type_url n.type_url p.type_url q.type_url in
    let subscribe = IsTexts-unique _ m.resource_names_subscribe n.resource_names_subscribe p.resource_names_subscribe q.resource_names_subscribe in
    let unsubscribe = IsTexts-unique _ m.resource_names_unsubscribe n.resource_names_unsubscribe p.resource_names_unsubscribe q.resource_names_unsubscribe in
    let versions = IsVersions-unique _ m.initial_resource_versions n.initial_resource_versions p.initial_resource_versions q.initial_resource_versions in
    let response_nonce = IsText-unique _ m.response_nonce n.response_nonce p.response_nonce q.response_nonce in
    let error_detail = IsInner-unique SpellsFailure SpellsFailure-unique _ m.error_detail n.error_detail p.error_detail q.error_detail in
    λ i. record { node = node i; type_url = type_url i; resource_names_subscribe = subscribe i; resource_names_unsubscribe = unsubscribe i; initial_resource_versions = versions i; response_nonce = response_nonce i; error_detail = error_detail i }

same_resource : (o : Option Data) (d e : Data) → o ≡ Some d → o ≡ Some e → d ≡ e
same_resource o d e p q = let same = sym p ∙ q in cc

SpellsResource-unique : (d : Data) (m n : VersionedResource) → SpellsResource d m → SpellsResource d n → m ≡ n
SpellsResource-unique d m n p q =
    let name = IsText-unique _ m.name n.name p.name q.name in
    let version = IsText-unique _ m.version n.version p.version q.version in
    let resource = same_resource _ m.resource n.resource p.resource q.resource in
    λ i. record { name = name i; version = version i; resource = resource i }

each_unique : (ds : List Data) (ms ns : List VersionedResource) → AllZip SpellsResource ds ms → AllZip SpellsResource ds ns → ms ≡ ns
each_unique [] [] [] p q = refl
each_unique [] [] (n ∷ ns) p q = absurd q
each_unique [] (m ∷ ms) ns p q = absurd p
each_unique (d ∷ ds) [] ns p q = absurd p
each_unique (d ∷ ds) (m ∷ ms) [] p q = absurd q
each_unique (d ∷ ds) (m ∷ ms) (n ∷ ns) p q = (λ i. SpellsResource-unique d m n p.0 q.0 i ∷ each_unique ds ms ns p.1 q.1 i)

IsArrayOf-unique : (d : Data) (ms ns : List VersionedResource) → IsArrayOf SpellsResource d ms → IsArrayOf SpellsResource d ns → ms ≡ ns
IsArrayOf-unique d ms ns p q = each_unique q.0 ms ns (subst (λ ds. AllZip SpellsResource ds ms) (same_items d p.0 q.0 p.1 q.1) p.2) q.2

IsResources-unique : (o : Option Data) (ms ns : List VersionedResource) → IsResources o ms → IsResources o ns → ms ≡ ns
IsResources-unique o ms ns p q = IsOrDefault-unique [] _ IsArrayOf-unique (set_value o) ms ns p q

pub SpellsDeltaResponse-unique : (d : Data) (m n : DeltaResponse) → SpellsDeltaResponse d m → SpellsDeltaResponse d n → m ≡ n
SpellsDeltaResponse-unique d m n p q =
    let version = IsText-unique _ m.system_version_info n.system_version_info p.system_version_info q.system_version_info in
    let resources = IsResources-unique _ m.resources n.resources p.resources q.resources in
    let type_url = IsText-unique _ m.type_url n.type_url p.type_url q.type_url in
    let nonce = IsText-unique _ m.nonce n.nonce p.nonce q.nonce in
    let removed = IsTexts-unique _ m.removed_resources n.removed_resources p.removed_resources q.removed_resources in
    λ i. record { system_version_info = version i; resources = resources i; type_url = type_url i; nonce = nonce i; removed_resources = removed i }
