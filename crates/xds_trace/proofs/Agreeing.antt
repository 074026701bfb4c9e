-- A session of a type on a stream, beside what the lines of a trace say of that type and stream; and what a request that is
-- taken or ignored makes of both, whatever its names say.
use Rattle.std.proofs.Common.{◌≡◌, ℕ, List, [], ◌∷◌, ◌++◌, Bool, true, false, ◌&&◌, not, refl, sym, ap, subst, ◌∙◌}
use Rattle.std.specs.Prelude.{if◌then◌else◌, is_some, is_none, bytes_eq}
use Rattle.std.specs.FinSet as set
use Rattle.xds_world.proofs.Replicas.{none_there}
use Rattle.xds_resource.specs.declared.types.TypeName.{TypeName}
use Rattle.xds_interest.specs.Asked.{Asked, sotw_kept, delta_kept}
use Rattle.xds_interest.proofs.Choices.{and_first, and_second}
use Rattle.xds_ledger.specs.declared.variant.VariantName.{VariantName}
use Rattle.xds_ledger.specs.declared.variant.VariantName.TheVariants as variants
use Rattle.xds_ledger.specs.Variants.{is_delta}
use Rattle.xds_ledger.specs.Ledgers.{Account, untold, settled, nonce_text, is_stale, touch, resume}
use Rattle.xds_ledger.specs.Sessions as sessions
use Rattle.xds_ledger.specs.Sessions.{Session, Names, unopened}
use Rattle.xds_check.specs.declared.asking.Asking.{Asking}
use Rattle.xds_check.specs.Answers.{nonce_of, rejects}
use Rattle.xds_check.specs.Lines as told_of
use Rattle.xds_check.specs.Lines.{Sent, is_waiting, lists, mentions}
use Rattle.xds_check.proofs.Talking.{unanswering_all, answered_list}
use Rattle.xds_trace.proofs.Accounts.{Tells, tells_nothing, waits_as, ignored_as, told_settled, told_touched}
use Rattle.xds_trace.proofs.Pending.{Waits}

-- what is kept of the requests that were taken is that of the whole list, and all are of the variant
abbrev pub HasAsked : VariantName → TypeName → List ℕ → Asked → List Asking → Type 0
HasAsked variants.StateOfTheWorld t cluster a qs = (a ≡ sotw_kept t cluster (lists qs)) × (mentions qs ≡ [])
HasAsked variants.Delta t cluster a qs = (a ≡ delta_kept t cluster (mentions qs)) × (lists qs ≡ [])

-- A session agrees with what lines say: whether there was a request, the responses, the requests that were taken, and the names
-- that wait.
pub record Agrees (v : VariantName) (cluster : List ℕ) (t : TypeName) (x : Session) (has : Bool) (rs : List Sent) (qs : List Asking) (P : List ℕ → Bool) : Type 0 where
  pub begun : x.asked.begun ≡ has
  pub fresh : has ≡ false → (x.account ≡ untold) × ((name : List ℕ) → P name ≡ false)
  pub asked : HasAsked v t cluster x.asked qs
  pub told : Tells x.account rs
  pub explicit : (name : List ℕ) → P name ≡ true → set.contains x.asked.interest.names name ≡ true
  pub waits : (name : List ℕ) → P name ≡ true → Waits (is_delta v) x.account name

-- ---- before the first request

nothing_asked : (v : VariantName) (t : TypeName) (cluster : List ℕ) → HasAsked v t cluster (unopened cluster).asked []
nothing_asked variants.StateOfTheWorld t cluster = (refl, refl)
nothing_asked variants.Delta t cluster = (refl, refl)

pub agrees_unopened : (v : VariantName) (cluster : List ℕ) (t : TypeName) → Agrees v cluster t (unopened cluster) false [] [] (λ name. false)
agrees_unopened v cluster t = record {
  begun = refl;
  fresh = λ none. (refl, λ name. refl);
  asked = nothing_asked v t cluster;
  told = tells_nothing;
  explicit = λ name is. absurd cc;
  waits = λ name is. absurd cc;
}

-- ---- a request

-- the account after a request that is taken
abbrev pub account_taken : VariantName → TypeName → Session → Asking → Names → Account
account_taken v t x m names = resume (touch (settled v t x.account (nonce_of m) (rejects m)) names.asked.interest names.touched names.mentioned) names.versions

-- the session after a request
abbrev pub session_asked : VariantName → TypeName → Session → Asking → Names → Session
session_asked v t x m names = sessions.take v t x (record { nonce = nonce_of m; rejects = rejects m }) names

told_first : (v : VariantName) (t : TypeName) (k : Account) (rs : List Sent) (m : Asking) (has : Bool) → (has ≡ false → k ≡ untold) → Tells k rs → Tells (settled v t k (nonce_of m) (rejects m)) (answered_list has m rs)
told_first v t k rs m true fresh told = told_settled v t k rs m told
told_first v t k rs m false fresh told = subst (λ a. Tells (settled v t a (nonce_of m) (rejects m)) rs) (sym (fresh refl)) (subst (λ a. Tells a rs) (fresh refl) told)

module _ (v : VariantName) (cluster : List ℕ) (t : TypeName) (x : Session) (has : Bool) (rs : List Sent) (qs : List Asking) (P : List ℕ → Bool) (m : Asking) (names : Names) (agrees : Agrees v cluster t x has rs qs P) where
  -- what is to be said of the names: the requests with this one are kept, and each name that waits then does so by the account
  pub record NamesAgree (Q : List ℕ → Bool) : Type 0 where
    pub begun : names.asked.begun ≡ true
    pub asked : HasAsked v t cluster names.asked (qs ++ m ∷ [])
    pub explicit : (name : List ℕ) → Q name ≡ true → set.contains names.asked.interest.names name ≡ true
    pub waits : (name : List ℕ) → Q name ≡ true → Waits (is_delta v) (account_taken v t x m names) name

  taken_agrees : (Q : List ℕ → Bool) → NamesAgree Q
      → Agrees v cluster t (sessions.taken v t x (record { nonce = nonce_of m; rejects = rejects m }) names) true (answered_list has m rs) (qs ++ m ∷ []) Q
  taken_agrees Q after = record {
    begun = after.begun;
    fresh = λ none. absurd cc;
    asked = after.asked;
    told =
        told_touched (settled v t x.account (nonce_of m) (rejects m)) (answered_list has m rs) names.asked.interest names.touched names.mentioned names.versions
        (told_first v t x.account rs m has (λ none. (agrees.fresh none).0) agrees.told);
    explicit = after.explicit;
    waits = after.waits;
  }

  ignored_same : (b : Bool) → b ≡ true → is_waiting rs ≡ false → answered_list b m rs ≡ rs
  ignored_same true is none = unanswering_all m rs none
  ignored_same false is none = refl

  -- rule: stale-nonce
  ignored_agrees : (has && is_stale x.account (nonce_of m)) ≡ true → Agrees v cluster t x true (answered_list has m rs) qs P
  ignored_agrees stale =
      let there : has ≡ true = and_first has (is_stale x.account (nonce_of m)) stale in
      let none : is_some x.account.sent ≡ false = ap is_some (none_there x.account.sent (and_first (is_none x.account.sent) (not (bytes_eq (nonce_of m) [])) (and_first (is_none x.account.sent && not (bytes_eq (nonce_of m) [])) (not (bytes_eq (nonce_of m) (nonce_text x.account.nonce))) (and_second has (is_stale x.account (nonce_of m)) stale)))) in
      let same : answered_list has m rs ≡ rs = ignored_same has there (waits_as x.account.sent x.account.nonce rs agrees.told.waiting ∙ none) in
      subst (λ r. Agrees v cluster t x true r qs P) (sym same) (subst (λ h. Agrees v cluster t x h rs qs P) there agrees)

  by_age : (Q : List ℕ → Bool) → NamesAgree Q → (old : Bool) → (has && is_stale x.account (nonce_of m)) ≡ old
      → Agrees v cluster t (if not old then sessions.taken v t x (record { nonce = nonce_of m; rejects = rejects m }) names else x) true (answered_list has m rs) (if old then qs else qs ++ m ∷ []) (λ name. if old then P name else Q name)
  by_age Q after true is = ignored_agrees is
  by_age Q after false is = taken_agrees Q after

  -- a request changes the session as it changes what the lines say
  pub asked_agrees : (Q : List ℕ → Bool) → NamesAgree Q
      → Agrees v cluster t (session_asked v t x m names) true (answered_list has m rs) (if told_of.is_stale has rs m then qs else qs ++ m ∷ []) (λ name. if told_of.is_stale has rs m then P name else Q name)
  asked_agrees Q after =
      let old : (has && is_stale x.account (nonce_of m)) ≡ (x.asked.begun && is_stale x.account (nonce_of m)) = ap (λ b. b && is_stale x.account (nonce_of m)) (sym agrees.begun) in
      let said : (has && is_stale x.account (nonce_of m)) ≡ told_of.is_stale has rs m = sym (ignored_as has x.account rs m agrees.told) in
      subst (λ s. Agrees v cluster t (session_asked v t x m names) true (answered_list has m rs) (if s then qs else qs ++ m ∷ []) (λ name. if s then P name else Q name)) said
      (subst (λ s. Agrees v cluster t (if not s then sessions.taken v t x (record { nonce = nonce_of m; rejects = rejects m }) names else x) true (answered_list has m rs)
      (if has && is_stale x.account (nonce_of m) then qs else qs ++ m ∷ []) (λ name. if has && is_stale x.account (nonce_of m) then P name else Q name)) old
      (by_age Q after (has && is_stale x.account (nonce_of m)) refl))
