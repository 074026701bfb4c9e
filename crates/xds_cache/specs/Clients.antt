-- A client of either variant: what it keeps of each type, and what it keeps of its stream. This project's own.
--     Client, client_code          what a client knows: of itself, of its stream, and of each type
--     fresh                        a client that is new wants nothing, and has no stream
--     shelf                        what it keeps of a type
--     view                         the cache of a type, which the client shows
--     with_shelf                   the client with another shelf of a type
--     identity                     the node of requests: an id and a cluster
--     node                         what the next request says of who asks: the first one on a stream alone says it
--     is_sent                      whether a change to these is sent
--     shelf_after                  what is kept of a type once the client wants these of it
--     changing                     with another shelf of a type, after a request or not
--     changed                      once the client wants these of a type
--     linked                       on a new stream
--     unlinked                     once its stream is lost
--     IsUsableWhenDown             a client that has no stream isn't broken: it can use the next one
--     broken_off                   the client once it found no memory for a response
--     if_asked                     the type, if the client asked for it on this stream
--     addressed                    the type of a response with this URL, if the client asked for it on this stream
--     addressed_or                 this type, and else the refusal `BadMessage`
--     addressing                   the type that a response is of, or why the response is refused
use Rattle.std.specs.Prelude.{◌≡◌, ℕ, List, Bool, true, false, if◌then◌else◌, Option, Some, None, Result, Ok, Err, refl}
use Rattle.std.specs.Option.{option_and_then}
use Rattle.std.specs.Coded.{Coded, code_by, coded×, coded_ℕ, coded_bool, coded_list}
use Rattle.xds_resource.specs.declared.types.TypeName.{TypeName}
use Rattle.xds_resource.specs.declared.refusal.Refusal.{Refusal}
use Rattle.xds_resource.specs.declared.refusal.Refusal.TheVariants.{BadMessage, NoStream}
use Rattle.xds_resource.specs.Types.{type_of_url}
use Rattle.xds_resource.specs.PerType.{PerType, per_type_code, per_type, at, with_at, each}
use Rattle.xds_message.specs.Messages.{Identity}
use Rattle.xds_cache.specs.Shelves.{Wants, Cache, Shelf, shelf_code, bare, wanting, wants_some, connected, lost}

pub record Client : Type 0 where
  -- the name that it sends of itself
  pub node_id : List ℕ
  -- and the cluster that it says it belongs to; it never looks at it itself
  pub cluster : List ℕ
  -- whether it sent these two on this stream
  pub greeted : Bool
  -- whether it found no memory for a response: then it can't use its stream any more
  pub broken : Bool
  pub shelves : PerType Shelf

abbrev pub client_code : Coded Client
client_code =
    code_by (List ℕ × (List ℕ × (Bool × (Bool × PerType Shelf)))) (coded× (coded_list coded_ℕ) (coded× (coded_list coded_ℕ) (coded× coded_bool (coded× coded_bool (per_type_code shelf_code)))))
    (λ c. (c.node_id, (c.cluster, (c.greeted, (c.broken, c.shelves))))) (λ p. record { node_id = p.0; cluster = p.1.0; greeted = p.1.1.0; broken = p.1.1.1.0; shelves = p.1.1.1.1 }) (λ _. refl)

-- a client that is new wants nothing, and has no stream
abbrev pub fresh : List ℕ → List ℕ → Client
fresh node_id cluster = record { node_id = node_id; cluster = cluster; greeted = false; broken = false; shelves = each bare }

-- what it keeps of a type
abbrev pub shelf : Client → TypeName → Shelf
shelf c t = at c.shelves t

-- what it shows of a type
abbrev pub view : Client → TypeName → Cache
view c t = (shelf c t).cache

abbrev pub with_shelf : Client → TypeName → Shelf → Client
with_shelf c t s = record c { shelves = with_at c.shelves t s }

abbrev pub identity : List ℕ → List ℕ → Identity
identity node_id cluster = record { id = node_id; cluster = cluster }

-- rule: groups
-- what the next request says of who asks: the first one on a stream alone says it
abbrev pub node : Bool → Client → Option Identity
node greeted c = if greeted then None else Some (identity c.node_id c.cluster)

-- Whether a change to these is sent: on a stream, unless the type wasn't asked for there and nothing is wanted.
abbrev pub is_sent : Bool → Shelf → Wants → Bool
is_sent up s w = if up then (if s.asked then true else wants_some w) else false

-- what is kept of a type once the client wants these of it
abbrev pub shelf_after : Bool → TypeName → Wants → Client → Shelf
shelf_after up t w c = wanting t w (if is_sent up (shelf c t) w then true else (shelf c t).asked) (shelf c t)

-- with another shelf of a type, after a request or not
abbrev pub changing : Bool → TypeName → Shelf → Client → Client
changing sent t s c = record c { greeted = if sent then true else c.greeted; shelves = with_at c.shelves t s }

-- once the client wants these of a type
abbrev pub changed : Bool → TypeName → Wants → Client → Client
changed up t w c = changing (is_sent up (shelf c t) w) t (shelf_after up t w c) c

-- on a new stream
abbrev pub linked : Bool → Client → Client
linked greeted c = record c { greeted = greeted; shelves = per_type (λ t. connected (shelf c t)) }

-- once its stream is lost
abbrev pub unlinked : Client → Client
unlinked c = record c { greeted = false; broken = false; shelves = per_type (λ t. lost (shelf c t)) }

-- A client that has no stream isn't broken: it can use the next one.
abbrev pub IsUsableWhenDown : Bool → Client → Type 0
IsUsableWhenDown up c = up ≡ false → c.broken ≡ false

-- once it found no memory for a response
abbrev pub broken_off : Client → Client
broken_off c = record c { broken = true }

abbrev pub if_asked : Client → TypeName → Option TypeName
if_asked c t = if (shelf c t).asked then Some t else None

-- the type of a response with this URL, if the client asked for it on this stream
abbrev pub addressed : Client → List ℕ → Option TypeName
addressed c url = option_and_then (if_asked c) (type_of_url url)

-- the same, where there is one, and else why a response is refused
abbrev pub addressed_or : Option TypeName → Result TypeName Refusal
addressed_or None = Err BadMessage
addressed_or (Some t) = Ok t

abbrev pub addressing : Client → List ℕ → Result TypeName Refusal
addressing c url = if c.broken then Err NoStream else addressed_or (addressed c url)
