-- What the proof of the headline needs to know of sessions. This project's own.
--     with_sent             the session with a response unanswered, and these touches since
--     SendingCommutes       sending commutes with taking a request that doesn't answer what is sent
--     AcceptedOwesNothing   once an offer is accepted of which no name was touched
--     RequestKeepsFitting   once all is listed of which a request may change what is owed
use Rattle.std.specs.Prelude.{◌≡◌, ℕ, List, [], ◌∷◌, ◌++◌, Bool, false, Some, None, bytes_eq}
use Rattle.std.specs.FinMap as finmap
use Rattle.std.specs.FinSet as set
use Rattle.xds_resource.specs.declared.types.TypeName.{TypeName}
use Rattle.xds_resource.specs.Writes.{text_cmp}
use Rattle.xds_interest.specs.Interests.{Selection}
use Rattle.xds_interest.specs.Touches.{Touch}
use Rattle.xds_catalogue.specs.Holdings.{Entries}
use Rattle.xds_ledger.specs.declared.variant.VariantName.{VariantName}
use Rattle.xds_ledger.specs.Offers.{Offer, offer}
use Rattle.xds_ledger.specs.Variants.{is_whole}
use Rattle.xds_ledger.specs.Listed.{Listed, IsWider}
use Rattle.xds_ledger.specs.Ledgers.{Account, nonce_text, is_due, accept, settled, touch, resume}
use Rattle.xds_ledger.specs.Lists.{Books, accepts, ListsRequest, FitsNext}
pub use Rattle.xds_ledger.specs.ListLaws.{NewListFits, WiderListFits, RefreshedListFits, PrunedListFits, OwedIsListed, LaterHoldingsFit, JoinedIsLater}
pub use Rattle.xds_ledger.specs.OfferLaws.{OfferSaysIt, NothingOwed, OffersAreToldApart}
pub use Rattle.xds_ledger.specs.BeliefLaws.{AcceptedByName, TakenByName, UntouchedKeepsBelief, TouchedIsNotTold}
use Rattle.xds_ledger.specs.Sessions.{Session, Answer, Names, taken}

-- the session with a response unanswered, and these touches since
abbrev pub with_sent : Session → Offer → List Touch → ℕ → Session
with_sent s offer touched nonce = record s { account = record s.account { nonce = nonce; sent = Some (record { offer = offer; touched = touched }) } }

-- Sending commutes with taking a request that doesn't answer what is sent.
abbrev pub SendingCommutes : Type 0
SendingCommutes =
    (v : VariantName) (t : TypeName) (s : Session) (offer : Offer) (since : List Touch) (nonce : ℕ) (answer : Answer) (names : Names)
    → s.account.sent ≡ None → bytes_eq answer.nonce (nonce_text nonce) ≡ false
    → taken v t (with_sent s offer since nonce) answer names ≡ with_sent (taken v t s answer names) offer (since ++ names.touched ∷ []) nonce

-- rule: accept-reject, rule: owed
-- Once an offer is accepted of which no name was touched, nothing is due by the entries that it was made from.
abbrev pub AcceptedOwesNothing : Type 0
AcceptedOwesNothing =
    (v : VariantName) (t : TypeName) (s : Selection) (m : Entries) (a : Account)
    → is_due v t s m (accept v t a (record { offer = offer v t s m a.beliefs; touched = [] })) ≡ false

-- Once all is listed of which a request may change what is owed, the list suffices when the request is taken.
abbrev pub RequestKeepsFitting : Type 0
RequestKeepsFitting =
    (v : VariantName) (t : TypeName) (old : Books) (wide : Listed) (nonce : List ℕ) (rejects : Bool) (s : Selection) (touched : Touch) (mentioned : set.FinSet text_cmp) (versions : finmap.FinMap text_cmp (List ℕ))
    → IsWider old.listed wide → ListsRequest old.account (accepts old.account nonce rejects) (is_whole v t) touched mentioned versions wide
    → FitsNext v t touched old (record { account = resume (touch (settled v t old.account nonce rejects) s touched mentioned) versions; listed = wide })
