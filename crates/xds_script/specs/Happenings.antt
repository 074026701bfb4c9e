-- What may happen in a world of replicas and clients. This project's own.
--     Wish            what a client is told to want of a type: state of the world and REST, a list of all texts
--     Happening       replicas and clients go by their numbers, batches by their place in the pool, from 1
--     PutsAResource   what a happening puts is a resource of its type, for groups that a write may list
use Rattle.std.specs.Prelude.{ℕ, List, Option, ⊤}
use Rattle.xds_resource.specs.declared.types.TypeName.{TypeName}
use Rattle.xds_resource.specs.Groups.{IsGroups}
use Rattle.xds_resource.specs.Resources.{NamedBody, IsCanonical}
use Rattle.xds_script.specs.declared.event.ClientKind.{ClientKind}
use Rattle.xds_script.specs.declared.event.AnswerFate.{AnswerFate}

-- What a client is told to want of a type: state of the world and REST, a list of all texts; delta, texts to subscribe and to unsubscribe.
pub data Wish : Type 0 where
  Names : List (List ℕ) → Wish
  Edits : List (List ℕ) → List (List ℕ) → Wish

-- Replicas and clients go by their numbers, batches by their place in the pool, from 1.
pub data Happening : Type 0 where
  AddReplica : ℕ → Happening
  -- a client, what it speaks, and the text of its cluster, empty where it has none
  AddClient : ℕ → ClientKind → List ℕ → Happening
  -- at a replica, a resource for these groups
  Put : ℕ → TypeName → NamedBody → List (List ℕ) → Happening
  Delete : ℕ → TypeName → List ℕ → Happening
  Snapshot : ℕ → Happening
  -- a replica, and a batch
  Merge : ℕ → ℕ → Happening
  -- a client, and a replica
  Connect : ℕ → ℕ → Happening
  Change : ℕ → TypeName → Wish → Happening
  -- the replica takes the oldest request of a client
  Up : ℕ → Happening
  Poll : ℕ → Option TypeName → Happening
  -- the client takes the oldest response
  Down : ℕ → Happening
  Lose : ℕ → Happening
  -- a client that polls asks a replica for a type, and the answer arrives or is lost
  RestPoll : ℕ → ℕ → TypeName → AnswerFate → Happening

-- what is put is a resource of its type, for groups that a write may list
abbrev pub PutsAResource : Happening → Type 0
PutsAResource (Put r t body groups) = IsCanonical t body × IsGroups groups
PutsAResource h = ⊤
