-- Polls of one type, and of all.
use Rattle.std.proofs.Common.{◌≡◌, ℕ, ◌+◌, ◌<◌, List, [], ◌∷◌, drop, length, get_or, Bool, true, false, ◌||◌, Option, Some, None, Result, Ok, Err, refl, sym, ap, subst, ◌∙◌}
use Rattle.std.specs.Prelude.{if◌then◌else◌, is_some, find, IsSome}
use Rattle.std.specs.List.{list_any}
use Rattle.std.specs.Option.{option_map_or}
use Rattle.xds_resource.specs.declared.types.TypeName.{TypeName}
use Rattle.xds_resource.specs.declared.refusal.Refusal.{Refusal}
use Rattle.xds_resource.specs.PerType.{PerType, at}
use Rattle.xds_resource.specs.Refusals.{Gives}
use Rattle.xds_resource.specs.Types.{types}
use Rattle.xds_resource.proofs.BoolsAndLists.{drop_here}
use Rattle.xds_message.specs.declared.draft.Draft.{Draft}
use Rattle.xds_ledger.specs.Offers.{Offer}
use Rattle.xds_ledger.specs.Sessions.{Session, sending}
use Rattle.xds_ledger.specs.declared.variant.VariantName.{VariantName}
use Rattle.xds_events.specs.Stores.{Store}
use Rattle.xds_core.specs.Talks.{due_in, is_due}
use Rattle.xds_events.specs.Streams.{Stream, IsToRespond, looked_at, to_send, first_due, responding, polled, polled_first}

alone : (replica : ℕ) (store : Store) (s : Stream) (t : TypeName) (q : Option Offer) → option_map_or (λ u. option_map_or (responding replica store s u) (to_send store s u) (Ok (None, s))) (if is_some q then Some t else None) (Ok (None, s)) ≡ (if is_some q then polled replica store s t else Ok (None, s))
alone replica store s t None = refl
alone replica store s t (Some o) = refl

unsent : (replica : ℕ) (store : Store) (s : Stream) (t : TypeName) (q : Option Offer) → to_send store s t ≡ q → (if is_some q then polled replica store s t else Ok (None, s)) ≡ polled replica store s t
unsent replica store s t None is = sym (ap (λ q. option_map_or (responding replica store s t) q (Ok (None, s))) is)
unsent replica store s t (Some o) is = refl

-- rule: type-order
-- a poll of one type
pub polled_alone : (replica : ℕ) (store : Store) (s : Stream) (t : TypeName) → polled_first replica store s (t ∷ []) ≡ polled replica store s t
polled_alone replica store s t = alone replica store s t (to_send store s t) ∙ unsent replica store s t (to_send store s t) refl

-- rule: type-order
-- what a poll of one type gives
pub gives_alone : (replica : ℕ) (held : Store) (kind : TypeName) (which : Option TypeName) (result : Result (Option Draft) Refusal) (left self : Stream) → which ≡ Some kind
    → Gives (λ o. (o, left)) result (polled replica held self kind) → Gives (λ o. (o, left)) result (polled_first replica held self (looked_at which))
gives_alone replica held kind which result left self is gives =
    subst (λ w. Gives (λ o. (o, left)) result (polled_first replica held self (looked_at w))) (sym is) (subst (Gives (λ o. (o, left)) result) (sym (polled_alone replica held self kind)) gives)

-- ---- one type after another

some_or : {X : Type 0} (b : Bool) (x : X) (o : Option X) → is_some (if b then Some x else o) ≡ (b || is_some o)
some_or true x o = refl
some_or false x o = refl

-- there is a first one where there is any
first_is_any : {X : Type 0} (p : X → Bool) (xs : List X) → is_some (find p xs) ≡ list_any p xs
first_is_any p [] = refl
first_is_any p (x ∷ xs) = some_or (p x) x (find p xs) ∙ ap (λ b. p x || b) (first_is_any p xs)

due_by : (store : Store) (n : ℕ) (ss : PerType Session) (o : Option VariantName) → is_due store (record { variant = o; count = n; sessions = ss }) ≡ is_some (first_due store (record { variant = o; count = n; sessions = ss }) types)
unfolding due_in
due_by store n ss None = refl
due_by store n ss (Some v) = sym (first_is_any (λ t. is_some (sending v t (at ss t) (at store t).entries)) types)

-- a response is to be sent where there is a first type that has one
pub due_is : (store : Store) (s : Stream) → is_due store s ≡ is_some (first_due store s types)
due_is store s = due_by store s.count s.sessions s.variant

module _ (store : Store) (s : Stream) (ts : List TypeName) (i : ℕ) (t d : TypeName) (end : Option TypeName) (within : i < length ts) (is : t ≡ get_or ts i d) (before : first_due store s (drop i ts) ≡ end) where
  due_if : end ≡ (if is_some (to_send store s t) then Some t else first_due store s (drop (i + 1) ts))
  due_if = sym before ∙ ap (first_due store s) (drop_here ts i t d within is)

  -- a type that has nothing to send is passed over
  pub due_later : is_some (to_send store s t) ≡ false → first_due store s (drop (i + 1) ts) ≡ end
  due_later none = sym (due_if ∙ ap (λ b. if b then Some t else first_due store s (drop (i + 1) ts)) none)

  -- one that has something to send is the first
  pub due_here : is_some (to_send store s t) ≡ true → end ≡ Some t
  due_here due = due_if ∙ ap (λ b. if b then Some t else first_due store s (drop (i + 1) ts)) due

-- what a poll of the first type that has something to send gives is what a poll of all does
pub first_gives : (replica : ℕ) (store : Store) (s : Stream) (ts : List TypeName) (t : TypeName) → first_due store s ts ≡ Some t → polled_first replica store s ts ≡ polled replica store s t
first_gives replica store s ts t is = ap (λ o. option_map_or (polled replica store s) o (Ok (None, s))) is

pub none_gives : (replica : ℕ) (store : Store) (s : Stream) (ts : List TypeName) → first_due store s ts ≡ None → polled_first replica store s ts ≡ Ok (None, s)
none_gives replica store s ts is = ap (λ o. option_map_or (polled replica store s) o (Ok (None, s))) is

-- where nothing is to be sent, a poll leaves the stream

abbrev left_or : Stream → Result (Option Draft × Stream) Refusal → Stream
left_or k (Ok p) = p.1
left_or k (Err e) = k

silent_at : (replica : ℕ) (store : Store) (s : Stream) (t : TypeName) (o : Option Offer) (q : Option Draft) (left : Stream) → is_some o ≡ false → option_map_or (responding replica store s t) o (Ok (None, s)) ≡ Ok (q, left) → left ≡ s
silent_at replica store s t None q left none is = sym (ap (left_or s) is)
silent_at replica store s t (Some o) q left none is = absurd cc

pub silent_left : (replica : ℕ) (store : Store) (s : Stream) (t : TypeName) (q : Option Draft) (left : Stream) → is_some (to_send store s t) ≡ false → polled replica store s t ≡ Ok (q, left) → left ≡ s
silent_left replica store s t q left none is = silent_at replica store s t (to_send store s t) q left none is

-- where a poll of a type is refused, the type has something to send

refused_if : (replica : ℕ) (store : Store) (s : Stream) (t : TypeName) (e : Refusal) (q : Option Offer) → option_map_or (responding replica store s t) q (Ok (None, s)) ≡ Err e → is_some q ≡ true
refused_if replica store s t e None is = absurd cc
refused_if replica store s t e (Some o) is = refl

pub refused_due : (replica : ℕ) (store : Store) (s : Stream) (t : TypeName) (e : Refusal) → polled replica store s t ≡ Err e → is_some (to_send store s t) ≡ true
refused_due replica store s t e is = refused_if replica store s t e (to_send store s t) is

short_if : (t : TypeName) (q : Option Offer) → IsSome (if is_some q then Some t else None) → is_some q ≡ true
short_if t None due = due
short_if t (Some o) due = refl

pub short_due : (store : Store) (s : Stream) (t : TypeName) → IsToRespond store s (t ∷ []) → is_some (to_send store s t) ≡ true
short_due store s t short = short_if t (to_send store s t) short.0

pub short_first : (store : Store) (s : Stream) (ts : List TypeName) (t : TypeName) → first_due store s ts ≡ Some t → IsToRespond store s (t ∷ []) → IsToRespond store s ts
short_first store s ts t is short = (subst IsSome (sym is) refl, short.1)

-- what a poll of the next type gives, once those before it had nothing to send, a poll of all does
module _ (replica : ℕ) (store : Store) (s now : Stream) (ts : List TypeName) (i : ℕ) (t d : TypeName) (within : i < length ts) (is : t ≡ get_or ts i d) (before : first_due store now (drop i ts) ≡ first_due store now ts) (same : s ≡ now) where
  next_is : is_some (to_send store s t) ≡ true → first_due store now ts ≡ Some t
  next_is due = due_here store now ts i t d (first_due store now ts) within is before (ap (λ x. is_some (to_send store x t)) (sym same) ∙ due)

  pub any_gives : (r : Result (Option Draft × Stream) Refusal) → is_some (to_send store s t) ≡ true → polled replica store s t ≡ r → polled_first replica store now ts ≡ r
  any_gives r due gives = first_gives replica store now ts t (next_is due) ∙ ap (λ x. polled replica store x t) (sym same) ∙ gives

  pub any_short : IsToRespond store s (t ∷ []) → IsToRespond store now ts
  any_short short = short_first store now ts t (next_is (short_due store s t short)) (subst (λ x. IsToRespond store x (t ∷ [])) same short)
