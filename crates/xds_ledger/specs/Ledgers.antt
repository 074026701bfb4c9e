-- What a server keeps of one type on one stream, beside the interest: what it told, what is unanswered, what was refused. This project's own.
--     Account, account_code   what is believed of a client, the unanswered response, the refused offer
--     untold                  before the first request
--     is_due                  whether a response is due
--     owes                    whether the client is owed something: an answer of its own is out, or a response is due
--     is_refused              whether this offer is the one that the client refused last
--     sending                 the offer that is sent now, if one is
--     send                    once a response of this number was sent
--     nonce_text              the nonce of the response of this number, and none before the first
--     answers                 whether a request with this nonce answers the unanswered response
--     is_stale                whether a request with this nonce is stale, where it isn't the first
--     accept                  the client accepts the response
--     reject                  the client rejects the response
--     answered                the client accepts or rejects the response
--     settled                 once the unanswered response was settled by a request with this nonce
--     noted                   what a request touched is noted with the unanswered response, if there is one
--     forgotten               the same without what was noted last
--     touch                   the account once a request's names are taken: its interest, the touched and the mentioned names
--     resume                  the account once the client said which versions it holds
--     taken                   once all that a request says of names is taken
use Rattle.std.specs.Prelude.{ℕ, zero, suc, List, [], Bool, true, false, ◌&&◌, ◌||◌, not, if◌then◌else◌, Option, Some, None, bytes_eq, is_some, is_none, option_map, decimal, refl}
use Rattle.std.specs.Option.{option_map_or}
use Rattle.std.specs.FinMap as finmap
use Rattle.std.specs.FinSet as set
use Rattle.xds_resource.specs.declared.types.TypeName.{TypeName}
use Rattle.xds_resource.specs.Writes.{text_cmp}
use Rattle.xds_interest.specs.Interests.{Selection}
use Rattle.std.specs.Coded.{Coded, code_by, coded×, coded_ℕ, coded_bool, coded_list, coded_option}
use Rattle.xds_interest.specs.Touches.{Touch}
use Rattle.xds_catalogue.specs.Holdings.{Entries}
use Rattle.xds_ledger.specs.declared.variant.VariantName.{VariantName}
use Rattle.xds_ledger.specs.declared.entry.Entry.{Entry}
use Rattle.xds_ledger.specs.declared.entry.Due.{Due}
pub use Rattle.xds_ledger.specs.Believing.{Sent, sent_code, touched_since, last_touch_forgotten, was_touched, once_told, believed_accepted, beliefs_accepted, believed_touched, believed_taken, beliefs_taken, AreInOrder, versions_of, beliefs_resumed, Names, beliefs_after}
use Rattle.xds_ledger.specs.Variants.{is_whole}
use Rattle.xds_ledger.specs.Owed.{entry_code, something_owed}
use Rattle.xds_ledger.specs.Offers.{Offer, due_code, offer, same_offer}
use Rattle.xds_ledger.specs.Stale as stale

pub record Account : Type 0 where
  -- what the client is believed to hold
  pub beliefs : finmap.FinMap text_cmp Entry
  -- the number of the last response of the type, 0 before the first
  pub nonce : ℕ
  -- whether a response of the type was accepted on this stream
  pub accepted : Bool
  pub sent : Option Sent
  -- the offer that was refused last, where none was accepted since
  pub refused : Option (finmap.FinMap text_cmp Due)

abbrev pub account_code : Coded Account
account_code =
    code_by (finmap.FinMap text_cmp Entry × (ℕ × (Bool × (Option Sent × Option (finmap.FinMap text_cmp Due)))))
    (coded× (finmap.code (coded_list coded_ℕ) entry_code) (coded× coded_ℕ (coded× coded_bool (coded× (coded_option sent_code) (coded_option (finmap.code (coded_list coded_ℕ) due_code))))))
    (λ a. (a.beliefs, (a.nonce, (a.accepted, (a.sent, a.refused))))) (λ p. record { beliefs = p.0; nonce = p.1.0; accepted = p.1.1.0; sent = p.1.1.1.0; refused = p.1.1.1.1 }) (λ _. refl)

-- before the first request
abbrev pub untold : Account
untold = record { beliefs = finmap.empty; nonce = 0; accepted = false; sent = None; refused = None }

-- ---- what is due

-- rule: owed
-- Whether a response is due: something is owed that can be told, or, where responses are whole, none was accepted yet.
abbrev pub is_due : VariantName → TypeName → Selection → Entries → Account → Bool
is_due v t s m a = something_owed v t s m a.beliefs || (is_whole v t && not a.accepted)

-- rule: owed
-- Whether the client is owed something: an answer of its own is out, or a response is due.
abbrev pub owes : VariantName → TypeName → Selection → Entries → Account → Bool
owes v t s m a = is_some a.sent || is_due v t s m a

-- rule: refused-offer
abbrev pub is_refused : Account → Offer → Bool
is_refused a o = option_map_or (same_offer o) a.refused false

-- rule: one-unanswered, rule: refused-offer
-- The offer that is sent now, if one is: nothing is unanswered, a response is due, and the offer isn't the one that was refused.
abbrev pub sending : VariantName → TypeName → Selection → Entries → Account → Option Offer
sending v t s m a =
    if is_none a.sent && is_due v t s m a && not (is_refused a (offer v t s m a.beliefs)) then Some (offer v t s m a.beliefs) else None

-- once a response of this number was sent
abbrev pub send : Account → Offer → ℕ → Account
send a o nonce = record a { nonce = nonce; sent = Some (record { offer = o; touched = [] }) }

-- ---- nonces

-- rule: new-nonce, rule: nonce-numbers
-- the nonce of the response of this number, and none before the first
abbrev pub nonce_text : ℕ → List ℕ
nonce_text zero = []
nonce_text (suc n) = decimal (suc n)

-- rule: accept-reject
-- whether a request with this nonce answers the unanswered response
abbrev pub answers : Account → List ℕ → Bool
answers a nonce = is_some a.sent && bytes_eq nonce (nonce_text a.nonce)

-- rule: stale-nonce
-- whether a request with this nonce is stale, where it isn't the first
abbrev pub is_stale : Account → List ℕ → Bool
is_stale a nonce = stale.is_stale true (is_none a.sent) (Some (nonce_text a.nonce)) nonce

-- ---- answers

-- rule: accept-reject, rule: refused-offer
-- the client accepts the response
abbrev pub accept : VariantName → TypeName → Account → Sent → Account
accept v t a sent = record a { beliefs = beliefs_accepted (is_whole v t) sent a.beliefs; accepted = true; sent = None; refused = None }

-- rule: accept-reject, rule: refused-offer
-- the client rejects the response
abbrev pub reject : Account → Sent → Account
reject a sent = record a { sent = None; refused = Some sent.offer }

-- rule: accept-reject
-- the client accepts or rejects the response
abbrev pub answered : VariantName → TypeName → Account → Sent → Bool → Account
answered v t a sent rejects = if rejects then reject a sent else accept v t a sent

-- rule: accept-reject
-- once the unanswered response was settled by a request with this nonce, if it answers that response
abbrev pub settled : VariantName → TypeName → Account → List ℕ → Bool → Account
settled v t a nonce rejects = if answers a nonce then option_map_or (λ sent. answered v t a sent rejects) a.sent a else a

-- ---- names

-- what a request touched is noted with the unanswered response, if there is one
abbrev pub noted : Account → Touch → Account
noted a touched = record a { sent = option_map (λ sent. touched_since sent touched) a.sent }

-- the same without what was noted last
abbrev pub forgotten : Account → Account
forgotten a = record a { sent = option_map last_touch_forgotten a.sent }

-- Once a request's names are taken: its interest, what it touches, and the names that it mentions.
abbrev pub touch : Account → Selection → Touch → set.FinSet text_cmp → Account
touch a s touched mentioned = record (noted a touched) { beliefs = beliefs_taken s touched mentioned a.beliefs }

abbrev pub resume : Account → finmap.FinMap text_cmp (List ℕ) → Account
resume a versions = record a { beliefs = beliefs_resumed versions a.beliefs }

-- once all that a request says of names is taken
abbrev pub taken : Account → Names → Account
taken a names = resume (touch a names.interest names.touched names.mentioned) names.versions
