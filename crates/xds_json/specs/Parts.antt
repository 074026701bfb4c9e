-- The parts that requests of both variants have in Envoy's `discovery.proto`, and which JSON values spell them.
--     Identity                        who asks: of Envoy's Node its id and its cluster
--     Failure                         why a client rejects a response: of google.rpc.Status its code and its message
--     SpellsIdentity                  a value spells a node
--     SpellsFailure                   a value spells an error
use Rattle.std.specs.Prelude.{ℕ, ℤ, List, codes}
use Rattle.serde_json.specs.Data.{Data}
use Rattle.xds_resource.specs.Fields.{field}
use Rattle.xds_json.specs.Spelling.{IsObject, IsText, IsCode}

-- who asks: of Envoy's Node its id and its cluster
pub record Identity : Type 0 where
  pub id : List ℕ
  pub cluster : List ℕ

-- why a client rejects a response: of google.rpc.Status its code and its message
pub record Failure : Type 0 where
  pub code : ℤ
  pub message : List ℕ

pub record SpellsIdentity (d : Data) (m : Identity) : Type 0 where
  pub is_object : IsObject d
  pub id : IsText (field (codes "id") (codes "id") d) m.id
  pub cluster : IsText (field (codes "cluster") (codes "cluster") d) m.cluster

pub record SpellsFailure (d : Data) (m : Failure) : Type 0 where
  pub is_object : IsObject d
  pub code : IsCode (field (codes "code") (codes "code") d) m.code
  pub message : IsText (field (codes "message") (codes "message") d) m.message
