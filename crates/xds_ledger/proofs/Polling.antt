-- What a poll of either variant's session sends and leaves.
use Rattle.std.proofs.Common.{◌≡◌, ℕ, Bool, true, false, ◌&&◌, not, Option, Some, None, refl, sym, ap, subst, ◌∙◌}
use Rattle.std.specs.Prelude.{if◌then◌else◌, is_some, is_none, MatchOption, ◌+◌}
use Rattle.std.specs.Option.{option_map_or}
use Rattle.xds_resource.specs.declared.types.TypeName.{TypeName}
use Rattle.xds_catalogue.specs.Holdings.{Entries}
use Rattle.xds_ledger.specs.declared.variant.VariantName.{VariantName}
use Rattle.xds_ledger.specs.Offers.{Offer, offer}
use Rattle.xds_ledger.specs.Ledgers.{is_due, is_refused}
use Rattle.xds_ledger.specs.Sessions.{Session, sending, send, IsNext, HasPolled}

-- a poll that sends
pub has_polled : {R : Type 0} (v : VariantName) (t : TypeName) (m : Entries) (respond : Offer → ℕ → R) (before : Session) (count : ℕ) (response : R) (after : Session) (count_after : ℕ) (o : Offer)
    → sending v t before m ≡ Some o → response ≡ respond o (count + 1) → after ≡ send before o (count + 1) → count_after ≡ count + 1
    → HasPolled v t m respond before count (Some response) after count_after
has_polled v t m respond before count response after count_after o sends made left counted =
    subst (λ x. MatchOption x ((Some response ≡ None) × (after ≡ before) × (count_after ≡ count))
    (λ o. (Some response ≡ Some (respond o (count + 1))) × (after ≡ send before o (count + 1)) × (count_after ≡ count + 1)))
    (sym sends) (ap Some made, left, counted)

sent_if : {X : Type 0} (o : X) (begun sends : Bool) → is_some (if begun then (if sends then Some o else None) else None) ≡ true → (if begun then (if sends then Some o else None) else None) ≡ Some o
sent_if o true true some = refl
sent_if o true false some = absurd cc
sent_if o false sends some = absurd cc

-- what a session sends, if it sends something, is the offer of its ledger
pub sends_offer : (v : VariantName) (t : TypeName) (s : Session) (m : Entries) → is_some (sending v t s m) ≡ true → sending v t s m ≡ Some (offer v t s.asked.interest m s.account.beliefs)
sends_offer v t s m some =
    sent_if (offer v t s.asked.interest m s.account.beliefs) s.asked.begun
    (is_none s.account.sent && is_due v t s.asked.interest m s.account && not (is_refused s.account (offer v t s.asked.interest m s.account.beliefs))) some

-- ---- what a poll has to send

module _ {R : Type 0} (v : VariantName) (t : TypeName) (m : Entries) (respond : Offer → ℕ → R) (s : Session) (count : ℕ) where
  abbrev IsAt : Option Offer → Option (Offer × R × ℕ) → Type 0
  IsAt q next = MatchOption q (next ≡ None) (λ o. next ≡ Some (o, respond o (count + 1), count + 1))

  none_at : (q : Option Offer) → is_some q ≡ false → IsAt q None
  none_at None none = refl
  none_at (Some o) none = absurd cc

  -- nothing is
  pub next_none : is_some (sending v t s m) ≡ false → IsNext v t m respond s count None
  next_none none = none_at (sending v t s m) none

  -- the offer is
  pub next_some : (o : Offer) (d : R) (n : ℕ) → is_some (sending v t s m) ≡ true → o ≡ offer v t s.asked.interest m s.account.beliefs → d ≡ respond o n → n ≡ count + 1 → IsNext v t m respond s count (Some (o, d, n))
  next_some o d n is offers says counts = subst (λ q. IsAt q (Some (o, d, n))) (sym (sends_offer v t s m is ∙ ap Some (sym offers))) (λ i. Some (o, (says ∙ ap (respond o) counts) i, counts i))

  was_at : (q : Option Offer) (o : Offer) (d : R) (n : ℕ) → IsAt q (Some (o, d, n)) → (q ≡ Some o) × (d ≡ respond o (count + 1)) × (n ≡ count + 1)
  was_at None o d n is = absurd cc
  was_at (Some p) o d n is =
      let same : o ≡ p = ap (λ x. option_map_or (λ y. y.0) x o) is in
      (ap Some (sym same), ap (λ x. option_map_or (λ y. y.1) x d) is ∙ ap (λ x. respond x (count + 1)) (sym same), ap (λ x. option_map_or (λ y. y.2) x n) is)

  -- what was
  pub next_was : (o : Offer) (d : R) (n : ℕ) → IsNext v t m respond s count (Some (o, d, n)) → (sending v t s m ≡ Some o) × (d ≡ respond o (count + 1)) × (n ≡ count + 1)
  next_was o d n is = was_at (sending v t s m) o d n is

  nothing_at : (q : Option Offer) → IsAt q None → q ≡ None
  nothing_at None is = refl
  nothing_at (Some o) is = absurd cc

  -- nothing was
  pub nothing_was : IsNext v t m respond s count None → sending v t s m ≡ None
  nothing_was is = nothing_at (sending v t s m) is

-- what was to be sent is the offer
pub next_offer : {R : Type 0} (v : VariantName) (t : TypeName) (m : Entries) (respond : Offer → ℕ → R) (s : Session) (count : ℕ) (o : Offer) (d : R) (n : ℕ) → IsNext v t m respond s count (Some (o, d, n)) → o ≡ offer v t s.asked.interest m s.account.beliefs
next_offer v t m respond s count o d n is =
    let sends : sending v t s m ≡ Some o = (next_was v t m respond s count o d n is).0 in
    ap (λ x. option_map_or (λ y. y) x o) (sym sends ∙ sends_offer v t s m (ap is_some sends))
