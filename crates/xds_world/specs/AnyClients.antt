-- A client of any kind, and what becomes of it. This project's own.
--     AnyClient, any_client_code   a client of any kind, and whether it has a stream
--     alone                        a client that has no stream
--     turned                       the other way round
--     wishing                      what a client gives to send
--     receiving                    the same after a response
--     of_any                       what is given, and a client of any kind with what is made of it
--     changing                     what a client of any kind gives to send
--     receiving_any                the same after a response
--     answering                    a client of this kind after an answer to its poll of a type, if it is one that polls
--     answering_any                the same of a client of any kind
--     linked_any                   a client on a new stream
--     unlinked_any                 a client once its stream is lost
--     fresh_any                    a client that wants nothing and has no stream
use Rattle.std.specs.Prelude.{ℕ, List, Bool, true, false, Option, None, option_map, refl}
use Rattle.std.specs.Coded.{Coded, code_by, coded×, coded_bool}
use Rattle.xds_resource.specs.declared.types.TypeName.{TypeName}
use Rattle.xds_resource.specs.Types.{types}
use Rattle.xds_message.specs.declared.draft.Draft.{Draft}
use Rattle.xds_message.specs.Drafts.{Drafted}
use Rattle.xds_core.specs.Streams.{Message}
use Rattle.xds_cache.specs.Faults.{Test}
use Rattle.xds_cache.specs.Clients as clients
use Rattle.xds_cache.specs.Clients.{Client, client_code, linked, unlinked}
use Rattle.xds_cache.specs.Sends.{is_greeted}
use Rattle.xds_script.specs.declared.event.ClientKind.{ClientKind}
use Rattle.xds_script.specs.declared.event.ClientKind.TheVariants.{Sotw, Delta, Rest}
use Rattle.xds_script.specs.declared.event.AnswerFate.TheVariants.{Arrives}
use Rattle.xds_script.specs.Happenings.{Wish}
use Rattle.xds_world.specs.Worlds.{Peer, wish_of, received_in, answer_taken}
use Rattle.xds_world.specs.PeerCodes.{kind_code}

-- a client of any kind, and whether it has a stream
pub record AnyClient : Type 0 where
  pub kind : ClientKind
  pub up : Bool
  pub client : Client

abbrev pub any_client_code : Coded AnyClient
any_client_code = code_by (ClientKind × (Bool × Client)) (coded× kind_code (coded× coded_bool client_code)) (λ c. (c.kind, (c.up, c.client))) (λ p. record { kind = p.0; up = p.1.0; client = p.1.1 }) (λ _. refl)

-- a client that has no stream
abbrev pub alone : ClientKind → Client → Peer
alone kind c = record { kind = kind; client = c; link = None }

-- the other way round
abbrev pub turned : {X Y : Type 0} → X × Y → Y × X
turned p = (p.1, p.0)

-- what a client gives to send, and the client then, once it is told to want something else
abbrev pub wishing : ClientKind → Bool → TypeName → Wish → Client → Option (Option Message × Client)
wishing kind up t wish c = option_map turned (wish_of kind (alone kind c) up t wish)

-- the same after a response
abbrev pub receiving : Test → ClientKind → Draft → Client → Option (Message × Client)
receiving test kind d c = option_map turned (received_in test kind c d)

-- what is given, and a client of any kind with what is made of it
abbrev pub of_any : {X : Type 0} → AnyClient → Option (X × Client) → Option (X × AnyClient)
of_any c o = option_map (λ q. (q.0, record { kind = c.kind; up = c.up; client = q.1 })) o

-- what a client of any kind gives to send, and that client then, once it is told to want something else
abbrev pub changing : TypeName → Wish → AnyClient → Option (Option Message × AnyClient)
changing t wish c = of_any c (wishing c.kind c.up t wish c.client)

-- the same after a response
abbrev pub receiving_any : Test → Draft → AnyClient → Option (Message × AnyClient)
receiving_any test d c = of_any c (receiving test c.kind d c.client)

-- a client of this kind after an answer to its poll of a type, if it is one that polls; no body stands for that nothing changed
abbrev pub answering : Test → ClientKind → TypeName → Option Drafted → Client → Option Client
answering test Rest t d c = answer_taken test Arrives c t d
answering test Sotw t d c = None
answering test Delta t d c = None

abbrev pub answering_any : Test → TypeName → Option Drafted → AnyClient → Option AnyClient
answering_any test t d c = option_map (λ x. record { kind = c.kind; up = c.up; client = x }) (answering test c.kind t d c.client)

-- a client on a new stream
abbrev pub linked_any : AnyClient → AnyClient
linked_any c = record { kind = c.kind; up = true; client = linked (is_greeted c.client false types) c.client }

-- a client once its stream is lost
abbrev pub unlinked_any : AnyClient → AnyClient
unlinked_any c = record { kind = c.kind; up = false; client = unlinked c.client }

-- a client that wants nothing and has no stream
abbrev pub fresh_any : ClientKind → List ℕ → List ℕ → AnyClient
fresh_any kind node_id cluster = record { kind = kind; up = false; client = clients.fresh node_id cluster }
