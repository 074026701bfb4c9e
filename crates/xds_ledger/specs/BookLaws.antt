-- What keeps the books of a ledger sufficient, and those of a session: the list, and what is known of the response that is
-- unanswered. This project's own.
--     SentBooksFit                       once an offer of these holdings is sent, the books still fit
--     SentSessionFits                    so does the session
--     LaterBooksFit                      at a catalogue to which writes came
--     RefreshedBooksFit                  books fit once their list is refreshed
--     PrunedBooksFit                     books fit once their list is pruned
--     AcceptanceKeepsFitting             once the response is accepted, with the touched names alone listed
use Rattle.std.specs.Prelude.{ℕ, List, Bool}
use Rattle.xds_resource.specs.declared.types.TypeName.{TypeName}
use Rattle.xds_interest.specs.Interests.{Selection}
use Rattle.xds_catalogue.specs.Holdings.{Holdings, IsNumbered}
use Rattle.xds_ledger.specs.declared.variant.VariantName.{VariantName}
use Rattle.xds_ledger.specs.Offers.{offer}
use Rattle.xds_ledger.specs.Listed as lists
use Rattle.xds_ledger.specs.Listed.{Listed, IsLater}
use Rattle.xds_ledger.specs.Ledgers.{Names, settled, taken}
use Rattle.xds_ledger.specs.Lists.{Books, Fits, FitsNext, refreshed, accepts, sent_books, ListsTouched, Kept, SessionFits, sent_kept}

-- Once an offer was sent that was made of these holdings, it is known what its acceptance leaves: of a name that isn't touched before,
-- what is present.
abbrev pub SentBooksFit : Type 0
SentBooksFit = (v : VariantName) (t : TypeName) (s : Selection) (h : Holdings) (b : Books) (nonce : ℕ) → Fits v t s h b → Fits v t s h (sent_books b (offer v t s h.entries b.account.beliefs) nonce)

abbrev pub SentSessionFits : Type 0
SentSessionFits =
    (v : VariantName) (t : TypeName) (h : Holdings) (k : Kept) (nonce : ℕ)
    → SessionFits v t h k → SessionFits v t h (sent_kept k (offer v t k.session.asked.interest h.entries k.session.account.beliefs) nonce)

-- at a catalogue to which writes came
abbrev pub LaterBooksFit : Type 0
LaterBooksFit = (v : VariantName) (t : TypeName) (s : Selection) (h later : Holdings) (b : Books) → IsLater h later → Fits v t s h b → Fits v t s later b

-- once the list was refreshed, and once it was pruned
abbrev pub RefreshedBooksFit : Type 0
RefreshedBooksFit = (v : VariantName) (t : TypeName) (s : Selection) (h : Holdings) (b : Books) → IsNumbered h → Fits v t s h b → Fits v t s h (refreshed h b)

abbrev pub PrunedBooksFit : Type 0
PrunedBooksFit =
    (v : VariantName) (t : TypeName) (s : Selection) (h : Holdings) (b : Books)
    → Fits v t s h b → Fits v t s h (record b { listed = lists.pruned v t s h b.account.beliefs b.listed })

-- Once the response is accepted by a request that has its touched names listed, and those that were touched since it was sent, the
-- books suffice for each interest that leaves the untouched names alone.
abbrev pub AcceptanceKeepsFitting : Type 0
AcceptanceKeepsFitting =
    (v : VariantName) (t : TypeName) (old : Books) (l : Listed) (nonce : List ℕ) (rejects : Bool) (names : Names)
    → ListsTouched v t old (accepts old.account nonce rejects) names l → FitsNext v t names.touched old (record { account = taken (settled v t old.account nonce rejects) names; listed = l })
