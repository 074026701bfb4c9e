-- What an incremental (delta) session takes and sends. The protocol is that of Envoy's "xDS REST and gRPC protocol"; the
-- version is this project's own.
--     mention                          the two lists of a request
--     answer_in                        the nonce of a request, which rejects where it has an error
--     take                             the session after a request
--     sending                          the offer of a poll, if it gives a response
--     owes                             whether the client is owed something
--     is_statement                     whether an offer states a name
--     is_removal                       whether an offer removes a name
--     names_where                      the names of which an offer says such a thing, in ascending order
--     resource_of                      the resource that a write puts, under its name and with its version
--     resource_at                      the live resource of a name
--     Said                             what a response says: stated resources, and names that are gone
--     said_by                          what a response with this offer says
--     response                         the response with this offer, as the response of this number on its stream
--     HasPolled                        what a poll answers and leaves
use Rattle.std.specs.Prelude.{ℕ, List, map, Bool, true, false, Option, is_some, option_map, decimal}
use Rattle.std.specs.Option.{option_and_then}
use Rattle.std.specs.List.{filter, filter_map}
use Rattle.std.specs.FinMap as finmap
use Rattle.xds_resource.specs.declared.types.TypeName.{TypeName}
use Rattle.xds_resource.specs.Writes.{StampedWrite, version_of}
use Rattle.xds_interest.specs.Delta.{Mention}
use Rattle.xds_catalogue.specs.Holdings.{Holdings, Entries}
use Rattle.xds_message.specs.DeltaMessages.{DeltaRequest}
use Rattle.xds_message.specs.Drafts.{DraftedDelta, DraftedResource}
use Rattle.xds_ledger.specs.declared.variant.VariantName.TheVariants.{Delta}
use Rattle.xds_ledger.specs.declared.entry.Due.{Due}
use Rattle.xds_ledger.specs.declared.entry.Due.TheVariants.{Stated, Removed}
use Rattle.xds_ledger.specs.Offers.{Offer}
use Rattle.xds_ledger.specs.Sessions as sessions
use Rattle.xds_ledger.specs.Sessions.{Session, Answer, delta_names}
use Rattle.xds_ledger.specs.Texts.{replica_version}

-- the two lists of a request
abbrev pub mention : DeltaRequest → Mention
mention m = record { subscribe = m.resource_names_subscribe; unsubscribe = m.resource_names_unsubscribe }

-- rule: accept-reject
-- the nonce of a request, which rejects where it has an error
abbrev pub answer_in : DeltaRequest → Answer
answer_in m = record { nonce = m.response_nonce; rejects = is_some m.error_detail }

-- the session after a request
abbrev pub take : TypeName → Session → DeltaRequest → Session
take t s m = sessions.take Delta t s (answer_in m) (delta_names t s.asked (mention m) m.initial_resource_versions)

-- the offer of a poll, if it gives a response
abbrev pub sending : TypeName → Session → Entries → Option Offer
sending t s m = sessions.sending Delta t s m

abbrev pub owes : TypeName → Session → Entries → Bool
owes t s m = sessions.owes Delta t s m

abbrev pub is_statement : Due → Bool
is_statement (Stated version) = true
is_statement Removed = false

abbrev pub is_removal : Due → Bool
is_removal (Stated version) = false
is_removal Removed = true

-- the names of which an offer says such a thing, in ascending order
abbrev pub names_where : (Due → Bool) → Offer → List (List ℕ)
names_where says o = map (λ e. e.0) (filter (λ e. says e.1) (finmap.entries o))

-- rule: best-writes
-- the resource that a write puts, under its name and with its version, if it is live
abbrev pub resource_of : StampedWrite → Option DraftedResource
resource_of w = option_map (λ body. record { name = w.name; version = version_of w; body = body }) w.body

-- rule: best-writes
-- the live resource of a name
abbrev pub resource_at : Entries → List ℕ → Option DraftedResource
resource_at m name = option_and_then resource_of (finmap.get m name)

-- what a response says: the resources that it states, and the names that are gone
pub record Said : Type 0 where
  pub resources : List DraftedResource
  pub removed : List (List ℕ)

-- What a response with this offer says: the live resources of the names that the offer states, and the names that it removes.
abbrev pub said_by : Entries → Offer → Said
said_by m o = record {
  resources = filter_map (resource_at m) (names_where is_statement o);
  removed = names_where is_removal o;
}

-- the response with this offer, as the response of this number on its stream
abbrev pub response : ℕ → TypeName → Holdings → Offer → ℕ → DraftedDelta
response replica t h o number = record {
  kind = t;
  system_version_info = replica_version replica h.changes;
  nonce = decimal number;
  resources = (said_by h.entries o).resources;
  removed_resources = (said_by h.entries o).removed;
}

-- What a poll answers and leaves, of the session and of the stream's count of responses.
abbrev pub HasPolled : ℕ → TypeName → Holdings → Session → ℕ → Option DraftedDelta → Session → ℕ → Type 0
HasPolled replica t h = sessions.HasPolled Delta t h.entries (response replica t h)
