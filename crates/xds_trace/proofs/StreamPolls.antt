-- A response on a stream: it breaks no rule, and what the stream is then agrees with what the lines say, with the line of the
-- response.
use Rattle.std.proofs.Common.{◌≡◌, ◌≢◌, inl, inr, ℕ, ◌+◌, ◌<◌, ◌≤◌, List, [], Bool, true, false, ◌&&◌, not, Option, Some, None, Result, Ok, Err, refl, sym, ap, ◌∙◌, arith}
use Rattle.std.specs.Prelude.{if◌then◌else◌, ◌==◌, is_none, bytes_eq, option_map, decimal, length}
use Rattle.std.specs.Option.{option_map_or, option_and_then}
use Rattle.std.proofs.lemmas.Fmt.{decimal_nonempty}
use Rattle.std.proofs.lemmas.Bool.Decides.{eqb_tells}
use Rattle.std.proofs.Math.Numerals.{suc-eq-add-one}
use Rattle.std.proofs.lemmas.Bool.{not-true}
use Rattle.xds_world.proofs.Replicas.{if_some, none_there}
use Rattle.xds_resource.specs.declared.types.TypeName.{TypeName}
use Rattle.xds_resource.specs.declared.refusal.Refusal.{Refusal}
use Rattle.xds_resource.specs.declared.refusal.Refusal.TheVariants.{NonceSpent}
use Rattle.xds_resource.specs.PerType.{at}
use Rattle.xds_resource.specs.Stamps.{max_counter}
use Rattle.xds_resource.proofs.NameMaps.{bytes_eq_tells}
use Rattle.xds_catalogue.specs.Holdings.{Entries}
use Rattle.xds_message.specs.declared.draft.Draft.{Draft}
use Rattle.xds_ledger.specs.declared.variant.VariantName.{VariantName}
use Rattle.xds_ledger.specs.Offers.{Offer, offer}
use Rattle.xds_ledger.specs.Ledgers as ledgers
use Rattle.xds_ledger.specs.Ledgers.{nonce_text, is_due, is_refused}
use Rattle.xds_ledger.specs.Sessions as sessions
use Rattle.xds_ledger.specs.Sessions.{Session}
use Rattle.xds_core.specs.Stores.{Store}
use Rattle.xds_core.specs.Streams as streams
use Rattle.xds_core.specs.Streams.{Stream, to_send, response_of, responding, polled, first_due, polled_first}

-- ---- nonces

-- rule: nonce-numbers
pub number_text : (n : ℕ) → nonce_text (n + 1) ≡ decimal (n + 1)
number_text n = ap nonce_text (sym (suc-eq-add-one n)) ∙ ap decimal (suc-eq-add-one n)

pub apart_by : (x y : List ℕ) (b : Bool) → bytes_eq x y ≡ b → (x ≡ y → ⊥) → b ≡ false
apart_by x y true is other = absurd (other (bytes_eq_tells x y is))
apart_by x y false is other = refl

-- rule: new-nonce
pub not_empty : (n : ℕ) → n ≤ max_counter → bytes_eq (decimal n) [] ≡ false
not_empty n within = apart_by (decimal n) [] (bytes_eq (decimal n) []) refl (λ is. let some : 0 < length (decimal n) = decimal_nonempty n (omega (arith, within)) in omega (arith, some, ap length is))

-- ---- a poll

-- what is known where an offer is sent
pub record IsDue (v : VariantName) (t : TypeName) (x : Session) (m : Entries) (o : Offer) : Type 0 where
  pub begun : x.asked.begun ≡ true
  pub free : x.account.sent ≡ None
  pub fresh : is_refused x.account o ≡ false
  pub offer_is : o ≡ offer v t x.asked.interest m x.account.beliefs

due_by : (v : VariantName) (t : TypeName) (x : Session) (m : Entries) (o : Offer) (begun : Bool) → x.asked.begun ≡ begun → (if begun then ledgers.sending v t x.asked.interest m x.account else None) ≡ Some o → IsDue v t x m o
due_by v t x m o false is sends = absurd cc
due_by v t x m o true is sends =
    let this : Offer = offer v t x.asked.interest m x.account.beliefs in
    let given = if_some (is_none x.account.sent && is_due v t x.asked.interest m x.account && not (is_refused x.account this)) this o sends in
    let rest = and_split (is_none x.account.sent) (is_due v t x.asked.interest m x.account) (not (is_refused x.account this)) given.0 in
    record { begun = is; free = none_there x.account.sent rest.0; fresh = ap (is_refused x.account) given.1 ∙ not-true (is_refused x.account this) rest.1; offer_is = given.1 }
  where
    and_split : (a b c : Bool) → (a && b && c) ≡ true → (a ≡ true) × (c ≡ true)
    and_split true true c all = (refl, all)
    and_split true false c all = absurd cc
    and_split false b c all = absurd cc

sends_where : (store : Store) (s : Stream) (t : TypeName) (o : Offer) (p : Option VariantName) → s.variant ≡ p → option_and_then (λ v. sessions.sending v t (at s.sessions t) (at store t).entries) p ≡ Some o
    → (v : VariantName) × (s.variant ≡ Some v) × IsDue v t (at s.sessions t) (at store t).entries o
sends_where store s t o None is sends = absurd cc
sends_where store s t o (Some v) is sends = (v, is, due_by v t (at s.sessions t) (at store t).entries o (at s.sessions t).asked.begun refl sends)

-- what a poll that gives a response gives, and of what
pub record IsPolled (replica : ℕ) (store : Store) (s : Stream) (d : Draft) (after : Stream) : Type 0 where
  pub kind : TypeName
  pub variant : VariantName
  pub this : Offer
  pub spoken : s.variant ≡ Some variant
  pub due : IsDue variant kind (at s.sessions kind) (at store kind).entries this
  pub more : s.count ≢ max_counter
  pub draft_is : d ≡ response_of replica store s.sessions kind this (s.count + 1) variant
  pub after_is : after ≡ streams.sent s kind this

unless_spent : {X : Type 0} (count : ℕ) (b : Bool) (x y : X) → (count == max_counter) ≡ b → (if b then Err NonceSpent else Ok x) ≡ Ok y → (count ≢ max_counter) × (y ≡ x)
unless_spent count true x y is ok = absurd cc
unless_spent count false x y is ok = (λ same. elim (eqb_tells count max_counter) [ inl equal ↦ absurd (differ (sym equal.0 ∙ is)) | inr other ↦ absurd (other.1 same) ], cc)
  where
    differ : true ≡ false → ⊥
    differ e = cc

responds : (replica : ℕ) (store : Store) (s : Stream) (t : TypeName) (o : Offer) (d : Draft) (after : Stream) → to_send store s t ≡ Some o → responding replica store s t o ≡ Ok (Some d, after) → IsPolled replica store s d after
responds replica store s t o d after sends is =
    let where_sent = sends_where store s t o s.variant refl sends in
    let made = unless_spent s.count (s.count == max_counter) (option_map (response_of replica store s.sessions t o (s.count + 1)) s.variant, streams.sent s t o) (Some d, after) refl is in
    let first : Some d ≡ Some (response_of replica store s.sessions t o (s.count + 1) where_sent.0) =
    ap (λ (p : Option Draft × Stream). p.0) made.1 ∙ ap (option_map (response_of replica store s.sessions t o (s.count + 1))) where_sent.1 in
    record {
      kind = t;
      variant = where_sent.0;
      this = o;
      spoken = where_sent.1;
      due = where_sent.2;
      more = made.0;
      draft_is = cc;
      after_is = ap (λ (p : Option Draft × Stream). p.1) made.1;
    }

ok_parts : {X : Type 0} (x y : X) → ◌≡◌ {A = Result X Refusal} (Ok x) (Ok y) → x ≡ y
ok_parts x y is = cc

-- no response is none
not_given : {D S X : Type 0} (d : D) (s after : S) → ◌≡◌ {A = Result (Option D × S) Refusal} (Ok (None, s)) (Ok (Some d, after)) → X
not_given {D} {S} d s after is = absurd (differ (ap (λ (p : Option D × S). p.0) (ok_parts (None, s) (Some d, after) is)))
  where
    differ : None ≡ Some d → ⊥
    differ e = cc

polled_type : (replica : ℕ) (store : Store) (s : Stream) (t : TypeName) (d : Draft) (after : Stream) (o : Option Offer) → to_send store s t ≡ o → option_map_or (responding replica store s t) o (Ok (None, s)) ≡ Ok (Some d, after) → IsPolled replica store s d after
polled_type replica store s t d after None sends is = not_given d s after is
polled_type replica store s t d after (Some o) sends is = responds replica store s t o d after sends is

-- where a poll gives a response
pub polled_some : (replica : ℕ) (store : Store) (s : Stream) (ts : List TypeName) (d : Draft) (after : Stream) → polled_first replica store s ts ≡ Ok (Some d, after) → IsPolled replica store s d after
polled_some replica store s ts d after is = by_first (first_due store s ts) is
  where
    by_first : (o : Option TypeName) → option_map_or (polled replica store s) o (Ok (None, s)) ≡ Ok (Some d, after) → IsPolled replica store s d after
    by_first None given = not_given d s after given
    by_first (Some t) given = polled_type replica store s t d after (to_send store s t) refl given

-- no response, and the same stream
same_left : {D S : Type 0} (s after : S) → ◌≡◌ {A = Result (Option D × S) Refusal} (Ok (None, s)) (Ok (None, after)) → after ≡ s
same_left {D} {S} s after is = sym (ap (λ (p : Option D × S). p.1) (ok_parts (None, s) (None, after) is))

no_response : (replica : ℕ) (store : Store) (s : Stream) (t : TypeName) (after : Stream) (v : Option VariantName) (o : Option Offer) → s.variant ≡ v → option_and_then (λ w. sessions.sending w t (at s.sessions t) (at store t).entries) v ≡ o
    → option_map_or (responding replica store s t) o (Ok (None, s)) ≡ Ok (None, after) → after ≡ s
no_response replica store s t after v None is sends given = same_left s after given
no_response replica store s t after None (Some o) is sends given = absurd cc
no_response replica store s t after (Some v) (Some o) is sends given =
    let made = unless_spent s.count (s.count == max_counter) (option_map (response_of replica store s.sessions t o (s.count + 1)) s.variant, streams.sent s t o) (None, after) refl given in
    absurd (differ (ap (λ (p : Option Draft × Stream). p.0) made.1 ∙ ap (option_map (response_of replica store s.sessions t o (s.count + 1))) is))
  where
    differ : {x : Draft} → None ≡ Some x → ⊥
    differ e = cc

-- and where it gives none, nothing happens
pub polled_none : (replica : ℕ) (store : Store) (s : Stream) (ts : List TypeName) (after : Stream) → polled_first replica store s ts ≡ Ok (None, after) → after ≡ s
polled_none replica store s ts after is = by_first (first_due store s ts) is
  where
    by_first : (o : Option TypeName) → option_map_or (polled replica store s) o (Ok (None, s)) ≡ Ok (None, after) → after ≡ s
    by_first None given = same_left s after given
    by_first (Some t) given = no_response replica store s t after s.variant (to_send store s t) refl refl given
