-- What an open stream is answered, and that it stays open.
use Rattle.std.proofs.Common.{◌≡◌, ◌≢◌, ◌≤◌, ◌<◌, ◌+◌, ◌-◌, ◌==◌, ◌⊎◌, ℕ, [], ◌∷◌, Bool, true, false, Option, Some, None, Result, Ok, Err, inl, inr, refl, sym, ap, subst, ◌∙◌, arith}
use Rattle.std.specs.Prelude.{IfErr, IsSome, IsSomeAnd, if◌then◌else◌}
use Rattle.std.specs.Option.{option_map, option_map_or}
use Rattle.std.specs.Cmp.{nat_cmp_total}
use Rattle.std.specs.FinMap as finmap
use Rattle.std.specs.FinMap.{FinMap, nat_cmp-IsAntisymmetric}
use Rattle.std.specs.Ordering.{nat_cmp}
use Rattle.std.proofs.lemmas.Bool.{true≢false}
use Rattle.xds_resource.specs.declared.types.TypeName.{TypeName}
use Rattle.xds_resource.specs.declared.refusal.Refusal.{Refusal}
use Rattle.xds_resource.specs.declared.refusal.Refusal.TheVariants.{OutOfMemory, CounterSpent, NoStream, NonceSpent, WrongVariant}
use Rattle.xds_resource.specs.Refusals.{Gives}
use Rattle.xds_resource.specs.Stamps.{max_counter}
use Rattle.xds_resource.specs.Types.{types}
use Rattle.xds_resource.proofs.Refusing.{memory_or_not, unless_refused-value}
use Rattle.xds_catalogue.proofs.Lookups.{get-inserted}
use Rattle.xds_message.specs.declared.draft.Draft.{Draft}
use Rattle.xds_ledger.specs.Offers.{Offer}
use Rattle.xds_core.specs.Stores.{Store}
use Rattle.xds_core.specs.Streams.{Stream, Message, opening, requested, answered, sessions_for, is_foreign, variant_of, polled_first, polled, responding, response_of, first_due, to_send, sent}
use Rattle.xds_core.specs.Events as events
use Rattle.xds_core.specs.Events.{Event, Reply, Answered, Polled, Opened, Closed}
use Rattle.xds_events.specs.declared.event.Reply as declared
use Rattle.xds_core.specs.Seen.{reply_of}
use Rattle.xds_core.specs.Steps.{Core, step, with_stream}
use Rattle.xds_core.specs.Legal.{IsShort}
use Rattle.xds_core.proofs.StreamSteps.{at_open}
use Rattle.xds_core.proofs.StepLaws.{done_with}
use Rattle.xds_ledger.specs.declared.outcome.Outcome.{Outcome}
use Rattle.xds_node.specs.Records.{Refuses}
use Rattle.xds_node.specs.Turning.{IsOpen, draft_in, number_in, numbers_left}

pub refuses : (c : Core) (event : Event) (e : Refusal) → (e ≢ OutOfMemory → step c event ≡ Err e) → (e ≡ OutOfMemory → IsShort c event) → Refuses c event e
refuses c event e other short =
    elim (memory_or_not e) [
      | inl memory ↦ inr (memory, short memory)
      | inr right ↦ inl (other right)
    ]

-- what is put at a number is found there
found : (m : FinMap nat_cmp Stream) (n : ℕ) (s : Stream) → finmap.get (finmap.insert m n s) n ≡ Some s
found m n s =
    elim (get-inserted nat_cmp_total nat_cmp-IsAntisymmetric m n s n) [
      | inl here ↦ here.1
      | inr there ↦ absurd (there.0 refl)
    ]

opened_at : (m : FinMap nat_cmp Stream) (n : ℕ) (s : Stream) → s.count ≤ max_counter → IsSomeAnd (finmap.get (finmap.insert m n s) n) (λ s. s.count ≤ max_counter)
opened_at m n s le = subst (λ (o : Option Stream). IsSomeAnd o (λ s. s.count ≤ max_counter)) (sym (found m n s)) le

-- a stream that opens is open
pub open_is : (c k : Core) (y : Reply) → step c events.Open ≡ Ok (y, k) → (step c events.Open ≡ Ok (Opened (number_in y), k)) × IsOpen (number_in y) k
open_is c k y is =
    let n = c.opened + 1 in
    let value = unless_refused-value ((c.opened == max_counter, CounterSpent) ∷ []) (Opened n, record c { opened = n; streams = finmap.insert c.streams n opening }) (y, k) is in
    subst (λ (p : Reply × Core). (step c events.Open ≡ Ok (Opened (number_in p.0), p.1)) × IsOpen (number_in p.0) p.1) value (is ∙ ap Ok (sym value), opened_at c.streams n opening (omega arith))

-- with the number that is answered
pub open_done : (c k : Core) (y : Reply) (n : ℕ) → n ≡ number_in y → step c events.Open ≡ Ok (y, k) → (step c events.Open ≡ Ok (Opened n, k)) × IsOpen n k
open_done c k y n named is = subst (λ i. (step c events.Open ≡ Ok (Opened i, k)) × IsOpen i k) (sym named) (open_is c k y is)

-- ---- requests

unless_foreign : {A : Type 0} (b : Bool) (r : Result A Refusal) (x : A) → (if b then Err WrongVariant else r) ≡ Ok x → r ≡ Ok x
unless_foreign true r x is = absurd cc
unless_foreign false r x is = is

-- a request leaves the number of responses
same_count : (s : Stream) (m : Message) (x : Outcome × Stream) → requested s m ≡ Ok x → x.1.count ≡ s.count
same_count s m x is =
    let done = done_with (λ p. (p.0, record { variant = Some (variant_of m); count = s.count; sessions = p.1 })) (answered (sessions_for s m) m) x (unless_foreign (is_foreign s m) _ x is) in
    ap (λ (p : Outcome × Stream). p.1.count) done.2

asked_at : (c k : Core) (n : ℕ) (m : Message) (y : Reply) (o : Option Stream) → finmap.get c.streams n ≡ o → IsSomeAnd o (λ s. s.count ≤ max_counter) → step c (events.Request n m) ≡ Ok (y, k)
    → ((o : Outcome) × (step c (events.Request n m) ≡ Ok (Answered o, k))) × IsOpen n k
asked_at c k n m y None has none is = absurd none
asked_at c k n m y (Some s) has le is =
    let done = done_with (λ p. (Answered p.0, with_stream c n p.1)) (requested s m) (y, k) (sym (at_open c n Answered (λ s. requested s m) s has) ∙ is) in
    let x = done.0 in
    let left : k ≡ with_stream c n x.1 = ap (λ (p : Reply × Core). p.1) done.2 in
    let reply : y ≡ Answered x.0 = ap (λ (p : Reply × Core). p.0) done.2 in (
      (x.0, is ∙ ap (λ r. Ok (r, k)) reply),
      subst (IsOpen n) (sym left) (opened_at c.streams n x.1 (subst (λ i. i ≤ max_counter) (sym (same_count s m x done.1)) le)),
    )

pub ask_is : (c k : Core) (n : ℕ) (m : Message) (y : Reply) → IsOpen n c → step c (events.Request n m) ≡ Ok (y, k)
    → ((o : Outcome) × (step c (events.Request n m) ≡ Ok (Answered o, k))) × IsOpen n k
ask_is c k n m y opened is = asked_at c k n m y (finmap.get c.streams n) refl opened is

-- ---- polls

-- a response takes the next number, of which there is one
abbrev Counts : Stream → Option Draft × Stream → Type 0
Counts s x = ((x.0 ≡ None) × (x.1 ≡ s)) ⊎ ((x.1.count ≡ s.count + 1) × (s.count < max_counter))

spent_apart : (i : ℕ) → (i == max_counter) ≡ false → i ≢ max_counter
spent_apart i other same = true≢false (subst (λ j. (j == max_counter) ≡ false) same other)

numbered : (s : Stream) (d : Option Draft) (t : Stream) (x : Option Draft × Stream) (b : Bool) → (s.count == max_counter) ≡ b → s.count ≤ max_counter → t.count ≡ s.count + 1
    → (if b then Err NonceSpent else Ok (d, t)) ≡ Ok x → Counts s x
numbered s d t x true spent le next is = absurd cc
numbered s d t x false left le next is =
    let same : (d, t) ≡ x = cc in
    inr (sym (ap (λ (p : Option Draft × Stream). p.1.count) same) ∙ next, below s.count left le)
  where
    below : (i : ℕ) → (i == max_counter) ≡ false → i ≤ max_counter → i < max_counter
    below i other le = omega (arith, spent_apart i other, le)

counts_offer : (replica : ℕ) (store : Store) (s : Stream) (t : TypeName) (x : Option Draft × Stream) (o : Option Offer) → s.count ≤ max_counter → option_map_or (responding replica store s t) o (Ok (None, s)) ≡ Ok x → Counts s x
counts_offer replica store s t x None le is = inl (ap (λ (p : Option Draft × Stream). p.0) (sym (same_ok is)), ap (λ (p : Option Draft × Stream). p.1) (sym (same_ok is)))
  where
    same_ok : ◌≡◌ {A = Result (Option Draft × Stream) Refusal} (Ok (None, s)) (Ok x) → (None, s) ≡ x
    same_ok h = cc
counts_offer replica store s t x (Some o) le is =
    numbered s (option_map (response_of replica store s.sessions t o (s.count + 1)) s.variant) (sent s t o) x (s.count == max_counter) refl le refl is

counts_first : (replica : ℕ) (store : Store) (s : Stream) (x : Option Draft × Stream) (t : Option TypeName) → s.count ≤ max_counter → option_map_or (polled replica store s) t (Ok (None, s)) ≡ Ok x → Counts s x
counts_first replica store s x None le is = inl (ap (λ (p : Option Draft × Stream). p.0) (sym (same_ok is)), ap (λ (p : Option Draft × Stream). p.1) (sym (same_ok is)))
  where
    same_ok : ◌≡◌ {A = Result (Option Draft × Stream) Refusal} (Ok (None, s)) (Ok x) → (None, s) ≡ x
    same_ok h = cc
counts_first replica store s x (Some t) le is = counts_offer replica store s t x (to_send store s t) le is

none_is_some : {X : Type 0} (o : Option X) → o ≡ None → IsSome o → ⊥
none_is_some None is some = absurd cc
none_is_some (Some x) is some = absurd cc

still_open : (s t : Stream) (d : Option Draft) → Counts s (d, t) → s.count ≤ max_counter → t.count ≤ max_counter
still_open s t d (inl same) le = subst (λ (u : Stream). u.count ≤ max_counter) (sym same.1) le
still_open s t d (inr more) le = omega (arith, more.0, more.1)

fewer_left : (s t : Stream) (d : Option Draft) → Counts s (d, t) → IsSome d → max_counter - t.count < max_counter - s.count
fewer_left s t d (inl same) some = absurd (none_is_some d same.0 some)
fewer_left s t d (inr more) some = omega (arith, more.0, more.1)

polled_at : (c k : Core) (n : ℕ) (y : Reply) (o : Option Stream) → finmap.get c.streams n ≡ o → IsSomeAnd o (λ s. s.count ≤ max_counter) → step c (events.Poll n None) ≡ Ok (y, k)
    → (step c (events.Poll n None) ≡ Ok (Polled (draft_in y), k)) × IsOpen n k × (IsSome (draft_in y) → numbers_left n k < numbers_left n c)
polled_at c k n y None has none is = absurd none
polled_at c k n y (Some s) has le is =
    let done = done_with (λ p. (Polled p.0, with_stream c n p.1)) (polled_first c.replica c.store s types) (y, k) (sym (at_open c n Polled (λ s. polled_first c.replica c.store s types) s has) ∙ is) in
    let x = done.0 in
    let left : k ≡ with_stream c n x.1 = ap (λ (p : Reply × Core). p.1) done.2 in
    let reply : y ≡ Polled x.0 = ap (λ (p : Reply × Core). p.0) done.2 in
    let counts : Counts s x = counts_first c.replica c.store s x (first_due c.store s types) le done.1 in
    let before : numbers_left n c ≡ max_counter - s.count = ap (λ (o : Option Stream). option_map_or (λ s. max_counter - s.count) o 0) has in
    let now : numbers_left n k ≡ max_counter - x.1.count = ap (numbers_left n) left ∙ ap (λ (o : Option Stream). option_map_or (λ s. max_counter - s.count) o 0) (found c.streams n x.1) in (
      subst (λ (r : Reply). step c (events.Poll n None) ≡ Ok (Polled (draft_in r), k)) (sym reply) (is ∙ ap (λ r. Ok (r, k)) reply),
      subst (IsOpen n) (sym left) (opened_at c.streams n x.1 (still_open s x.1 x.0 counts le)),
      λ some. omega (arith, before, now, fewer_left s x.1 x.0 counts (subst (λ (r : Reply). IsSome (draft_in r)) reply some)),
    )

pub poll_is : (c k : Core) (n : ℕ) (y : Reply) → IsOpen n c → step c (events.Poll n None) ≡ Ok (y, k)
    → (step c (events.Poll n None) ≡ Ok (Polled (draft_in y), k)) × IsOpen n k × (IsSome (draft_in y) → numbers_left n k < numbers_left n c)
poll_is c k n y opened is = polled_at c k n y (finmap.get c.streams n) refl opened is

-- with the response that is answered
pub poll_done : (c k : Core) (n : ℕ) (y : Reply) (d : Option Draft) → d ≡ draft_in y → IsOpen n c → step c (events.Poll n None) ≡ Ok (y, k)
    → (step c (events.Poll n None) ≡ Ok (Polled d, k)) × IsOpen n k × (IsSome d → numbers_left n k < numbers_left n c)
poll_done c k n y d named opened is =
    subst (λ (e : Option Draft). (step c (events.Poll n None) ≡ Ok (Polled e, k)) × IsOpen n k × (IsSome e → numbers_left n k < numbers_left n c)) (sym named) (poll_is c k n y opened is)

-- ---- its close

closes_at : (c : Core) (n : ℕ) (o : Option Stream) → finmap.get c.streams n ≡ o → IsSomeAnd o (λ s. s.count ≤ max_counter) → step c (events.Close n) ≡ Ok (Closed, record c { streams = finmap.remove c.streams n })
closes_at c n None has none = absurd none
closes_at c n (Some s) has le = ap (λ (o : Option Stream). option_map_or (λ s. Ok (Closed, record c { streams = finmap.remove c.streams n })) o (Err NoStream)) has

pub close_is : (c k : Core) (n : ℕ) (r : Result declared.Reply Refusal) → IsOpen n c → Gives (λ y. (reply_of y, k)) r (step c (events.Close n)) → IfErr r (λ e. e ≡ OutOfMemory → IsShort c (events.Close n))
    → step c (events.Close n) ≡ Ok (Closed, k)
close_is c k n (Ok y) opened is short =
    let closes = closes_at c n (finmap.get c.streams n) refl opened in
    let both = both_ok (sym is ∙ closes) in
    closes ∙ ap (λ (x : Core). Ok (Closed, x)) (sym (ap (λ (p : Reply × Core). p.1) both))
  where
    both_ok : {x z : Reply × Core} → ◌≡◌ {A = Result (Reply × Core) Refusal} (Ok x) (Ok z) → x ≡ z
    both_ok h = cc
close_is c k n (Err e) opened is short = absurd (never (sym (is (λ memory. short memory)) ∙ closes_at c n (finmap.get c.streams n) refl opened))
  where
    never : {x : Reply × Core} → ◌≡◌ {A = Result (Reply × Core) Refusal} (Err e) (Ok x) → ⊥
    never h = absurd cc
