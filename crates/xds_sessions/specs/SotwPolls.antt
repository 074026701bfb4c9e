-- What a state-of-the-world session takes and sends. The protocol is that of Envoy's "xDS REST and gRPC protocol"; the
-- version is this project's own.
--     take_list       the session after a request with this nonce, with or without an error
--     take            the session after a request, which rejects where it has an error
--     sending         the offer of a poll, if it gives a response
--     owes            whether the client is owed something
--     stated_writes   the live writes that the interest covers and the offer speaks of, in ascending order of names
--     stated_bodies   their texts
--     response        the response with this offer, as the response of this number on its stream
--     HasPolled       what a poll answers and leaves, of the session and of the stream's count of responses
use Rattle.std.specs.Prelude.{ℕ, List, Bool, Option, is_some, decimal}
use Rattle.std.specs.List.{filter, filter_map}
use Rattle.std.specs.FinMap as finmap
use Rattle.xds_resource.specs.declared.types.TypeName.{TypeName}
use Rattle.xds_resource.specs.Writes.{StampedWrite}
use Rattle.xds_interest.specs.Interests.{Selection}
use Rattle.xds_catalogue.specs.Holdings.{Holdings, Entries}
use Rattle.xds_catalogue.specs.Content.{content}
use Rattle.xds_message.specs.Messages.{Request}
use Rattle.xds_message.specs.Drafts.{Drafted}
use Rattle.xds_ledger.specs.declared.variant.VariantName.TheVariants.{StateOfTheWorld}
use Rattle.xds_ledger.specs.Offers.{Offer}
use Rattle.xds_ledger.specs.Sessions as sessions
use Rattle.xds_ledger.specs.Sessions.{Session, sotw_names}
use Rattle.xds_ledger.specs.Texts.{interest_version}

-- the session after a request with this nonce, with or without an error, and with this list of names
abbrev pub take_list : TypeName → Session → List ℕ → Bool → List (List ℕ) → Session
take_list t s nonce rejects names = sessions.take StateOfTheWorld t s (record { nonce = nonce; rejects = rejects }) (sotw_names t s.asked names)

-- the session after a request, which rejects where it has an error
abbrev pub take : TypeName → Session → Request → Session
take t s m = take_list t s m.response_nonce (is_some m.error_detail) m.resource_names

-- the offer of a poll, if it gives a response
abbrev pub sending : TypeName → Session → Entries → Option Offer
sending t s m = sessions.sending StateOfTheWorld t s m

abbrev pub owes : TypeName → Session → Entries → Bool
owes t s m = sessions.owes StateOfTheWorld t s m

-- rule: best-writes
-- the live writes that the interest covers and the offer speaks of, in ascending order of names
abbrev pub stated_writes : Entries → Selection → Offer → List StampedWrite
stated_writes m s o = filter (λ w. is_some (finmap.get o w.name)) (content m s)

-- rule: best-writes
-- their texts
abbrev pub stated_bodies : Entries → Selection → Offer → List (List ℕ)
stated_bodies m s o = filter_map (λ w. w.body) (stated_writes m s o)

-- the response with this offer, as the response of this number on its stream
abbrev pub response : ℕ → TypeName → Holdings → Selection → Offer → ℕ → Drafted
response replica t h s o number = record {
  kind = t;
  version_info = interest_version replica h.changes s;
  nonce = decimal number;
  bodies = stated_bodies h.entries s o;
}

-- What a poll answers and leaves, of the session and of the stream's count of responses.
abbrev pub HasPolled : ℕ → TypeName → Holdings → Session → ℕ → Option Drafted → Session → ℕ → Type 0
HasPolled replica t h before count answer after count_after =
    sessions.HasPolled StateOfTheWorld t h.entries (response replica t h before.asked.interest) before count answer after count_after
