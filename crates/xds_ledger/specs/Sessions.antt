-- A session is one type on one stream: what the client asked for, and the account of what it was told. One definition for
-- both variants; a request of either says how the interest changes, what it touches, what it mentions and what it resumes from.
--     Session, session_code   what the requests asked, and the account of what was told
--     unopened                before the first request, of a client with this cluster text: it is owed nothing
--     Answer                  the nonce of a request, and whether it has an error
--     Names                   what a request's names say
--     sotw_names              state of the world: the explicit names are mentioned
--     delta_names             Delta: both lists mention names, but the first request mentions those that it subscribes
--     is_stale                whether a request with this nonce is stale, so that it is ignored
--     taken                   after a request that is taken
--     outcome                 what became of a request with this nonce
--     take                    after a request
--     owes                    whether the client is owed something, by a replica that holds these entries
--     sending                 the offer that a poll sends, if it sends one
--     send                    once that was sent as the response of this number
--     IsNext                  what a poll has to send: an offer, its response, and the number of that
--     HasPolled               what a poll answers and leaves, of the session and of the stream's count of responses
use Rattle.std.specs.Prelude.{◌≡◌, ℕ, ◌+◌, List, Bool, ◌&&◌, not, if◌then◌else◌, Option, Some, None, is_none, MatchOption, refl}
use Rattle.std.specs.FinMap as finmap
use Rattle.std.specs.FinSet as set
use Rattle.std.specs.Coded.{Coded, code_by, coded×}
use Rattle.xds_resource.specs.declared.types.TypeName.{TypeName}
use Rattle.xds_resource.specs.Writes.{text_cmp}
use Rattle.xds_interest.specs.Asked.{Asked, asked_code, unasked, sotw_asked, delta_asked}
use Rattle.xds_interest.specs.Delta.{Mention}
use Rattle.xds_interest.specs.Touches.{Touch, sotw_touch, delta_touch}
use Rattle.xds_catalogue.specs.Holdings.{Entries}
use Rattle.xds_ledger.specs.declared.variant.VariantName.{VariantName}
use Rattle.xds_ledger.specs.declared.outcome.Outcome.{Outcome}
use Rattle.xds_ledger.specs.declared.outcome.Outcome.TheVariants.{Taken, Ignored}
use Rattle.xds_ledger.specs.Offers.{Offer}
use Rattle.xds_ledger.specs.Ledgers as ledgers
use Rattle.xds_ledger.specs.Ledgers.{Account, account_code, untold, nonce_text, settled, touch, resume}
use Rattle.xds_ledger.specs.Stale as stale

pub record Session : Type 0 where
  pub asked : Asked
  pub account : Account

abbrev pub session_code : Coded Session
session_code = code_by (Asked × Account) (coded× asked_code account_code) (λ s. (s.asked, s.account)) (λ p. record { asked = p.0; account = p.1 }) (λ _. refl)

-- before the first request, of a client with this cluster text: it is owed nothing
abbrev pub unopened : List ℕ → Session
unopened cluster = record { asked = unasked cluster; account = untold }

-- the nonce of a request, and whether it has an error
pub record Answer : Type 0 where
  pub nonce : List ℕ
  pub rejects : Bool

-- what a request's names say: what is kept of the requests then, what it touches and mentions, and the versions that it resumes from
pub record Names : Type 0 where
  pub asked : Asked
  pub touched : Touch
  pub mentioned : set.FinSet text_cmp
  pub versions : finmap.FinMap text_cmp (List ℕ)

-- state of the world: the explicit names are mentioned
abbrev pub sotw_names : TypeName → Asked → List (List ℕ) → Names
sotw_names t before names =
    let after = sotw_asked t before names in
    record { asked = after; touched = sotw_touch before.interest after.interest; mentioned = after.interest.names; versions = finmap.empty }

-- Delta: both lists mention names, but the first request mentions those that it subscribes, and it alone resumes from versions.
abbrev pub delta_names : TypeName → Asked → Mention → finmap.FinMap text_cmp (List ℕ) → Names
delta_names t before m versions =
    let after = delta_asked t before m in
    record {
      asked = after;
      touched = delta_touch t m;
      mentioned = if before.begun then (delta_touch t m).names else after.interest.names;
      versions = if before.begun then finmap.empty else versions;
    }

-- rule: stale-nonce
-- whether a request with this nonce is stale, so that it is ignored: the first request never is
abbrev pub is_stale : Session → List ℕ → Bool
is_stale s nonce = stale.is_stale s.asked.begun (is_none s.account.sent) (Some (nonce_text s.account.nonce)) nonce

-- after a request that is taken: it settles the response that it answers, and then its names are taken
abbrev pub taken : VariantName → TypeName → Session → Answer → Names → Session
taken v t s answer names = record {
  asked = names.asked;
  account = resume (touch (settled v t s.account answer.nonce answer.rejects) names.asked.interest names.touched names.mentioned) names.versions;
}

-- rule: stale-nonce
-- what became of a request with this nonce
abbrev pub outcome : Session → List ℕ → Outcome
outcome s nonce = if not (is_stale s nonce) then Taken else Ignored

-- rule: stale-nonce
-- after a request
abbrev pub take : VariantName → TypeName → Session → Answer → Names → Session
take v t s answer names = if not (is_stale s answer.nonce) then taken v t s answer names else s

-- rule: owed
-- whether the client is owed something, by a replica that holds these entries
abbrev pub owes : VariantName → TypeName → Session → Entries → Bool
owes v t s m = s.asked.begun && ledgers.owes v t s.asked.interest m s.account

-- the offer that a poll sends, if it sends one
abbrev pub sending : VariantName → TypeName → Session → Entries → Option Offer
sending v t s m = if s.asked.begun then ledgers.sending v t s.asked.interest m s.account else None

-- once that was sent as the response of this number
abbrev pub send : Session → Offer → ℕ → Session
send s offer nonce = record s { account = ledgers.send s.account offer nonce }

-- rule: nonce-numbers
-- What a poll has to send, by the stream's count of responses: where an offer is to be sent, that offer, its response as the next
-- one, and the number of that; else nothing. `respond` is the response of an offer, as the one of a number.
abbrev pub IsNext : {R : Type 0} → VariantName → TypeName → Entries → (Offer → ℕ → R) → Session → ℕ → Option (Offer × R × ℕ) → Type 0
IsNext v t m respond s count next = MatchOption (sending v t s m) (next ≡ None) (λ o. next ≡ Some (o, respond o (count + 1), count + 1))

-- rule: nonce-numbers
-- What a poll answers and leaves, of the session and of the stream's count of responses: where an offer is to be sent, it is
-- sent as the next response, and else nothing happens. `respond` is the response of an offer, as the one of a number.
abbrev pub HasPolled : {R : Type 0} → VariantName → TypeName → Entries → (Offer → ℕ → R) → Session → ℕ → Option R → Session → ℕ → Type 0
HasPolled v t m respond before count answer after count_after =
    MatchOption (sending v t before m) ((answer ≡ None) × (after ≡ before) × (count_after ≡ count))
    (λ o. (answer ≡ Some (respond o (count + 1))) × (after ≡ send before o (count + 1)) × (count_after ≡ count + 1))
