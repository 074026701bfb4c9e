-- A session to which a response of its type was sent: once that was answered, nothing is sent any more by the same entries.
use Rattle.std.proofs.Common.{◌≡◌, ◌⊎◌, inl, inr, ℕ, [], Bool, true, false, ◌&&◌, not, Some, None, refl, sym, ap, subst, ◌∙◌}
use Rattle.std.specs.Prelude.{is_none}
use Rattle.std.specs.Option.{option_map_or}
use Rattle.xds_resource.specs.declared.types.TypeName.{TypeName}
use Rattle.xds_catalogue.specs.Holdings.{Entries}
use Rattle.xds_ledger.specs.declared.variant.VariantName.{VariantName}
use Rattle.xds_ledger.specs.Offers.{Offer, offer, same_offer}
use Rattle.xds_ledger.specs.Ledgers as ledgers
use Rattle.xds_ledger.specs.Ledgers.{Account, nonce_text, is_due, is_refused, answered, touch, resume}
use Rattle.xds_ledger.specs.Sessions as sessions
use Rattle.xds_ledger.specs.Sessions.{Session, Answer, Names, taken, send, delta_names}
use Rattle.xds_ledger.proofs.Settling.{accepted_owes_nothing}
use Rattle.xds_ledger.proofs.SameOffers.{offers_are_told_apart}
use Rattle.xds_world.proofs.Replicas.{some_is, if_some, if_both, both_parts}
use Rattle.xds_world.proofs.LinkSteps.{sending_facts}
use Rattle.xds_world.proofs.Lanes.{none_sent, HasAnswer}

-- ---- after a response

-- what the replica would offer now
abbrev pub offer_now : VariantName → TypeName → Session → Entries → Offer
offer_now v t s m = offer v t s.asked.interest m s.account.beliefs

-- that is unanswered
abbrev pub IsWaiting : VariantName → TypeName → Session → Entries → Type 0
IsWaiting v t s m = s.account.sent ≡ Some (record { offer = offer_now v t s m; touched = [] })

-- nothing is unanswered, and nothing due but what was refused
abbrev pub IsDone : VariantName → TypeName → Session → Entries → Type 0
IsDone v t s m = (s.account.sent ≡ None) × ((is_due v t s.asked.interest m s.account ≡ false) ⊎ (s.account.refused ≡ Some (offer_now v t s m)))

abbrev pub IsReady : VariantName → TypeName → Session → Entries → Type 0
IsReady v t s m = IsWaiting v t s m ⊎ IsDone v t s m

-- ---- a poll

-- what is so where an offer is sent
pub sending_parts : (v : VariantName) (t : TypeName) (s : Session) (m : Entries) (o : Offer) → sessions.sending v t s m ≡ Some o
    → (s.account.sent ≡ None) × (is_due v t s.asked.interest m s.account ≡ true) × (is_refused s.account (offer_now v t s m) ≡ false)
sending_parts v t s m o is =
    let begun = if_both s.asked.begun (ledgers.sending v t s.asked.interest m s.account) o is in
    let all = if_some (is_none s.account.sent && is_due v t s.asked.interest m s.account && not (is_refused s.account (offer_now v t s m))) (offer_now v t s m) o begun.1 in
    let first = both_parts (is_none s.account.sent && is_due v t s.asked.interest m s.account) (not (is_refused s.account (offer_now v t s m))) all.0 in
    let parts = both_parts (is_none s.account.sent) (is_due v t s.asked.interest m s.account) first.0 in
    ((sending_facts v t s m o is).1, parts.1, was_false (is_refused s.account (offer_now v t s m)) first.1)
  where
    was_false : (b : Bool) → not b ≡ true → b ≡ false
    was_false true is = absurd cc
    was_false false is = refl

pub never_both : (b : Bool) → b ≡ true → b ≡ false → ⊥
never_both true is not = absurd cc
never_both false is not = absurd cc

-- where a response of these entries was sent or answered, none is sent again
pub ready_sends_none : (v : VariantName) (t : TypeName) (s : Session) (m : Entries) (o : Offer) → IsReady v t s m → sessions.sending v t s m ≡ Some o → ⊥
ready_sends_none v t s m o (inl waits) is =
    none_sent s.account.sent (record { offer = offer_now v t s m; touched = [] }) (sending_parts v t s m o is).0 waits
ready_sends_none v t s m o (inr (none, inl not_due)) is = never_both (is_due v t s.asked.interest m s.account) (sending_parts v t s m o is).1 not_due
ready_sends_none v t s m o (inr (none, inr refused)) is =
    let now : Offer = offer_now v t s m in
    never_both (is_refused s.account now) (ap (λ x. option_map_or (same_offer now) x false) refused ∙ (offers_are_told_apart now now).1 refl) (sending_parts v t s m o is).2

pub waits_once_sent : (v : VariantName) (t : TypeName) (s : Session) (m : Entries) (o : Offer) (n : ℕ) → sessions.sending v t s m ≡ Some o → IsWaiting v t (send s o n) m
waits_once_sent v t s m o n is = ap (λ x. Some (record { offer = x; touched = [] })) (sending_facts v t s m o is).2

-- ---- an answer

done_by : (v : VariantName) (t : TypeName) (s : Session) (m : Entries) (rejects : Bool) → IsDone v t (record { asked = s.asked; account = answered v t s.account (record { offer = offer_now v t s m; touched = [] }) rejects }) m
done_by v t s m true = (refl, inr refl)
done_by v t s m false = (refl, inl (accepted_owes_nothing v t s.asked.interest m s.account))

pub done_once_answered : (v : VariantName) (t : TypeName) (s after : Session) (m : Entries) → IsWaiting v t s m → HasAnswer v t s after → IsDone v t after m
done_once_answered v t s after m waits answer =
    let sent : answer.sent ≡ record { offer = offer_now v t s m; touched = [] } = some_is answer.sent (record { offer = offer_now v t s m; touched = [] }) (sym answer.has ∙ waits) in
    let account : after.account ≡ answered v t s.account (record { offer = offer_now v t s m; touched = [] }) answer.rejects = answer.account ∙ ap (λ x. answered v t s.account x answer.rejects) sent in
    subst (λ (x : Session). IsDone v t x m) (λ i. record { asked = sym answer.asked i; account = sym account i }) (done_by v t s m answer.rejects)
