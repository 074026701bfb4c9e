-- That a session's poll is what a stream's poll of the type is.
use Rattle.std.proofs.Common.{◌≡◌, ◌≢◌, ◌⊎◌, inl, inr, ℕ, ◌+◌, ◌<◌, ◌≤◌, ◌==◌, Bool, true, false, Option, Some, None, Result, Ok, Err, refl, sym, ap, subst, ◌∙◌, arith}
use Rattle.std.specs.Prelude.{if◌then◌else◌, is_some, IfOk, IfErr, OnErr, IfSome, IsSome, MatchOption, option_map}
use Rattle.std.specs.Option.{option_map_or}
use Rattle.std.proofs.lemmas.Bool.{ne_eqb}
use Rattle.xds_resource.specs.declared.types.TypeName.{TypeName}
use Rattle.xds_resource.specs.declared.types.TypeName.TheVariants.{Cluster, Endpoint, Listener, Route, Secret}
use Rattle.xds_resource.specs.declared.refusal.Refusal.{Refusal}
use Rattle.xds_resource.specs.declared.refusal.Refusal.TheVariants.{OutOfMemory, NonceSpent}
use Rattle.xds_resource.specs.PerType.{PerType, at, with_at}
use Rattle.xds_resource.specs.Refusals.{Gives}
use Rattle.xds_resource.specs.Stamps.{max_counter}
use Rattle.xds_message.specs.declared.draft.Draft.{Draft}
use Rattle.xds_ledger.specs.declared.variant.VariantName.{VariantName}
use Rattle.xds_ledger.specs.declared.variant.VariantName.TheVariants as variants
use Rattle.xds_ledger.specs.Offers.{Offer}
use Rattle.xds_ledger.specs.Lists.{Kept, SessionFits}
use Rattle.xds_ledger.specs.Sessions as sessions
use Rattle.xds_ledger.specs.Sessions.{Session, HasPolled}
use Rattle.xds_events.specs.Stores.{Store}
use Rattle.xds_events.specs.Streams.{Stream, to_send, sent, response_of, responding}
use Rattle.xds_core.specs.Talks.{Talk, drafted, stream_in, followed, firsts, StreamFits, IsPolled}
use Rattle.xds_core.proofs.StreamsFitting.{with_kept, placed_fits}

-- a session's response is the stream's
drafted_is : (replica : ℕ) (store : Store) (ss : PerType Session) (t : TypeName) (o : Offer) (n : ℕ) (v : VariantName) → drafted replica t (at store t) (at ss t).asked.interest v o n ≡ response_of replica store ss t o n v
drafted_is replica store ss t o n variants.StateOfTheWorld = refl
drafted_is replica store ss t o n variants.Delta = refl

with_its_own : {X : Type 0} (p : PerType X) (t : TypeName) → with_at p t (at p t) ≡ p
with_its_own p Cluster = refl
with_its_own p Endpoint = refl
with_its_own p Listener = refl
with_its_own p Route = refl
with_its_own p Secret = refl

-- why a poll of a session is refused that would send this
abbrev pub IsHeldUp : Option Offer → ℕ → Refusal → Type 0
IsHeldUp q count e = IsSome q × (((e ≡ NonceSpent) × (count ≡ max_counter)) ⊎ ((e ≡ OutOfMemory) × (count < max_counter)))

memory_is_another : NonceSpent ≡ OutOfMemory → ⊥
memory_is_another is = absurd cc

module _ (replica : ℕ) (store : Store) (v : VariantName) (k : Talk) (t : TypeName) where
  abbrev now : Stream
  now = stream_in v k

  abbrev here : Session
  here = at k.sessions t

  abbrev respond : Offer → ℕ → Draft
  respond = drafted replica t (at store t) here.asked.interest v

  abbrev answer : Option Offer → Result (Option Draft × Stream) Refusal
  answer q = option_map_or (responding replica store now t) q (Ok (None, now))

  -- the stream once the session is this one, and the count
  abbrev left : Session → ℕ → Stream
  left s n = record { variant = Some v; count = n; sessions = with_at k.sessions t s }

  abbrev HasPolledAt : {X : Type 0} → Option Offer → Option (Draft × X) → Session → ℕ → Type 0
  HasPolledAt q o s n =
      MatchOption q ((option_map (λ p. p.0) o ≡ None) × (s ≡ here) × (n ≡ k.count)) (λ x. (option_map (λ p. p.0) o ≡ Some (respond x (k.count + 1))) × (s ≡ sessions.send here x (k.count + 1)) × (n ≡ k.count + 1))

  unchanged : (s : Session) (n : ℕ) → s ≡ here → n ≡ k.count → left s n ≡ now
  unchanged s n is counts = λ i. record { variant = Some v; count = counts i; sessions = (ap (with_at k.sessions t) is ∙ with_its_own k.sessions t) i }

  given : {X : Type 0} (q : Option Offer) (o : Option (Draft × X)) (s : Session) (n : ℕ) → HasPolledAt q o s n → IfSome o (λ _. n ≤ max_counter) → answer q ≡ Ok (option_map (λ p. p.0) o, left s n)
  given None o s n is bound = λ i. Ok (sym is.0 i, sym (unchanged s n is.1 is.2) i)
  given (Some x) None s n is bound = absurd (nothing is.0)
    where
      nothing : {d : Draft} → ◌≡◌ {A = Option Draft} None (Some d) → ⊥
      nothing never = absurd cc
  given (Some x) (Some p) s n is bound =
      let counted = is.2 in
      let room : (k.count == max_counter) ≡ false = ne_eqb k.count max_counter (λ spent. omega (arith, bound, counted, spent)) in
      ap (λ b. if b then Err NonceSpent else Ok (Some (response_of replica store k.sessions t x (k.count + 1) v), sent now t x)) room
      ∙ (λ i. Ok (sym (is.0 ∙ ap Some (drafted_is replica store k.sessions t x (k.count + 1) v)) i, record { variant = Some v; count = sym counted i; sessions = with_at k.sessions t (sym is.1 i) }))

  spent_at : (q : Option Offer) (e : Refusal) → IsHeldUp q k.count e → e ≢ OutOfMemory → answer q ≡ Err e
  spent_at q e (due, inr short) other = absurd (other short.0)
  spent_at None e (due, inl full) other = let never : false ≡ true = due in absurd cc
  spent_at (Some o) e (due, inl full) other =
      let is_full : (k.count == max_counter) ≡ true = ap (λ n. n == max_counter) full.1 in
      ap (λ b. if b then Err NonceSpent else Ok (Some (response_of replica store k.sessions t o (k.count + 1) v), sent now t o)) is_full ∙ ap Err (sym full.0)

  gives_at : {X : Type 0} (q : Option Offer) (r : Result (Option (Draft × X)) Refusal) (s : Session) (n : ℕ) → IfOk r (λ o. HasPolledAt q o s n) → IfOk r (λ o. IfSome o (λ _. n ≤ max_counter)) → IfErr r (IsHeldUp q k.count) → Gives (λ o. (o, left s n)) (firsts r) (answer q)
  gives_at q (Ok o) s n is bound refused = given q o s n is bound
  gives_at q (Err e) s n is bound refused = spent_at q e refused

  sent_at : {X : Type 0} (q : Option Offer) (o : Option (Draft × X)) (s : Session) (n : ℕ) → HasPolledAt q o s n → is_some o ≡ is_some q
  sent_at None None s n is = refl
  sent_at (Some x) (Some p) s n is = refl
  sent_at None (Some p) s n is = ap is_some is.0
  sent_at (Some x) None s n is = ap is_some is.0

  is_sent : {X : Type 0} (q : Option Offer) (r : Result (Option (Draft × X)) Refusal) (s : Session) (n : ℕ) → IfOk r (λ o. HasPolledAt q o s n) → IfOk r (λ o. is_some o ≡ is_some q)
  is_sent q (Ok o) s n is = sent_at q o s n is
  is_sent q (Err e) s n is = is

  due_alone : (q : Option Offer) → IsSome q → k.count < max_counter → IsSome (if is_some q then Some t else None) × (k.count < max_counter)
  due_alone None due room = let never : false ≡ true = due in absurd cc
  due_alone (Some o) due room = (refl, room)

  short_at : {X : Type 0} (q : Option Offer) (r : Result (Option (Draft × X)) Refusal) → IfErr r (IsHeldUp q k.count) → IfErr r (λ e. e ≡ OutOfMemory → IsSome (if is_some q then Some t else None) × (k.count < max_counter))
  short_at q (Ok o) refused = refused
  short_at q (Err e) (due, inl full) = λ none. absurd (memory_is_another (sym full.0 ∙ none))
  short_at q (Err e) (due, inr short) = λ none. due_alone q due short.1

  same_at : {X : Type 0} (r : Result (Option (Draft × X)) Refusal) (s : Session) (n : ℕ) → OnErr r ((s ≡ here) × (n ≡ k.count)) → OnErr r (left s n ≡ now)
  same_at (Ok o) s n same = same
  same_at (Err e) s n same = unchanged s n same.0 same.1

  pub polled_here : {X : Type 0} (r : Result (Option (Draft × X)) Refusal) (x : Kept) (n : ℕ) → IfOk r (λ o. HasPolled v t (at store t).entries respond here k.count (option_map (λ p. p.0) o) x.session n) → IfOk r (λ o. IfSome o (λ _. n ≤ max_counter))
      → OnErr r ((x.session ≡ here) × (n ≡ k.count)) → IfErr r (IsHeldUp (sessions.sending v t here (at store t).entries) k.count) → SessionFits v t (at store t) x → StreamFits store (followed v k)
      → IsPolled replica store (followed v k) t r (followed v (with_kept k n t x))
  polled_here r x n ok bound err refused fits there =
      let q = sessions.sending v t here (at store t).entries in
      record {
        gives = gives_at q r x.session n ok bound refused;
        sent = is_sent q r x.session n ok;
        memory = short_at q r refused;
        same = same_at r x.session n err;
        fits = placed_fits v store k n t x fits there;
      }

-- as a method sees it that asks one session
pub polled_at : {X : Type 0} {store held : Store} {k now : Talk} {kind : TypeName} (replica : ℕ) (v : VariantName) (t : TypeName) (r : Result (Option (Draft × X)) Refusal) (x : Kept) (n : ℕ) → store ≡ held → k ≡ now → kind ≡ t
    → IfOk r (λ o. HasPolled v t (at store t).entries (drafted replica t (at store t) (at k.sessions t).asked.interest v) (at k.sessions t) k.count (option_map (λ p. p.0) o) x.session n) → IfOk r (λ o. IfSome o (λ _. n ≤ max_counter))
    → OnErr r ((x.session ≡ at k.sessions t) × (n ≡ k.count)) → IfErr r (IsHeldUp (sessions.sending v t (at k.sessions t) (at store t).entries) k.count) → SessionFits v t (at store t) x → StreamFits held (followed v now)
    → IsPolled replica held (followed v now) kind r (followed v (with_kept k n t x))
polled_at {X} {store} {held} {k} {now} {kind} replica v t r x n holds begins is ok bound err refused fits there =
    subst (λ u. IsPolled replica held (followed v now) u r (followed v (with_kept k n t x))) (sym is)
    (subst (λ h. IsPolled replica h (followed v now) t r (followed v (with_kept k n t x))) holds
    (subst (λ (b : Talk). IsPolled replica store (followed v b) t r (followed v (with_kept k n t x))) begins
    (polled_here replica store v k t r x n ok bound err refused fits (subst (λ (b : Talk). StreamFits store (followed v b)) (sym begins) (subst (λ h. StreamFits h (followed v now)) (sym holds) there)))))

-- whether a session has a response to send
pub sends_at : {store held : Store} {k now : Talk} {kind : TypeName} (v : VariantName) (t : TypeName) (b : Bool) → store ≡ held → k ≡ now → kind ≡ t → b ≡ is_some (sessions.sending v t (at k.sessions t) (at store t).entries)
    → b ≡ is_some (to_send held (stream_in v now) kind)
sends_at v t b holds begins is says = says ∙ (λ i. is_some (sessions.sending v (sym is i) (at (begins i).sessions (sym is i)) (at (holds i) (sym is i)).entries))
