-- A value spells one message of a kind.
use Rattle.std.proofs.Common.{◌≡◌}
use Rattle.serde_json.specs.Data.{Data}
use Rattle.xds_message.specs.Messages.{Request, Response, SpellsIdentity, SpellsFailure, SpellsRequest, SpellsResponse}
use Rattle.xds_json.proofs.OneField.{IsText-unique, IsTexts-unique, IsObjects-unique, IsInner-unique, SpellsIdentity-unique, SpellsFailure-unique}

pub SpellsRequest-unique : (d : Data) (m n : Request) → SpellsRequest d m → SpellsRequest d n → m ≡ n
SpellsRequest-unique d m n p q =
    let version_info = IsText-unique _ m.version_info n.version_info p.version_info q.version_info in
    let node = IsInner-unique SpellsIdentity SpellsIdentity-unique _ m.node n.node p.node q.node in
    let resource_names = IsTexts-unique _ m.resource_names n.resource_names p.resource_names q.resource_names in
    let type_url = IsText-unique _ m.type_url n.type_url p.type_url q.type_url in
    let response_nonce = IsText-unique _ m.response_nonce n.response_nonce p.response_nonce q.response_nonce in
    let error_detail = IsInner-unique SpellsFailure SpellsFailure-unique _ m.error_detail n.error_detail p.error_detail q.error_detail in
    λ i. record { version_info = version_info i; node = node i; resource_names = resource_names i; type_url = type_url i; response_nonce = response_nonce i; error_detail = error_detail i }

pub SpellsResponse-unique : (d : Data) (m n : Response) → SpellsResponse d m → SpellsResponse d n → m ≡ n
SpellsResponse-unique d m n p q =
    let version_info = IsText-unique _ m.version_info n.version_info p.version_info q.version_info in
    let resources = IsObjects-unique _ m.resources n.resources p.resources q.resources in
    let type_url = IsText-unique _ m.type_url n.type_url p.type_url q.type_url in
    let nonce = IsText-unique _ m.nonce n.nonce p.nonce q.nonce in
    λ i. record { version_info = version_info i; resources = resources i; type_url = type_url i; nonce = nonce i }
