-- A stream before and after its first request, which says of which cluster the client is.
use Rattle.std.proofs.Common.{◌≡◌, ℕ, List, [], ◌∷◌, ◌++◌, Bool, true, false, Option, Some, None, Ok, Err, refl, sym, ap, ◌∙◌}
use Rattle.std.specs.Prelude.{if◌then◌else◌, is_some}
use Rattle.std.specs.Option.{option_map_or, option_and_then}
use Rattle.xds_resource.specs.declared.types.TypeName.{TypeName}
use Rattle.xds_resource.specs.declared.refusal.Refusal.TheVariants.{WrongVariant}
use Rattle.xds_resource.specs.PerType.{at, each}
use Rattle.xds_message.specs.declared.draft.Draft.{Draft}
use Rattle.xds_ledger.specs.declared.outcome.Outcome.{Outcome}
use Rattle.xds_ledger.specs.declared.variant.VariantName.{VariantName}
use Rattle.xds_ledger.specs.Sessions as sessions
use Rattle.xds_ledger.specs.Sessions.{unopened}
use Rattle.xds_core.specs.Stores.{Store, if_done}
use Rattle.xds_core.specs.Streams.{Stream, Message, variant_of, cluster_of, is_foreign, sessions_for, answered, requested, owes_of, polled, first_due, polled_first}
use Rattle.xds_cache.specs.Shelves.{wants_some}
use Rattle.xds_cache.specs.Clients.{Client, shelf, linked}
use Rattle.xds_cache.specs.Sends.{is_greeted}
use Rattle.xds_world.proofs.Replicas.{ok_is}
use Rattle.xds_world.proofs.Firsts.{firsts, firsts_by}
use Rattle.xds_world.proofs.Queues.{started}
use Rattle.xds_world.proofs.LinkSteps.{taken_by, poll_sent, poll_quiet}

-- ---- the stream as it is for its client

-- once its variant is decided, it is as it is
pub started_decided : (cluster : List ℕ) (x : Stream) (v : VariantName) → x.variant ≡ Some v → started cluster x ≡ x
started_decided cluster x v is = ap (λ o. record x { sessions = if is_some o then x.sessions else each (unopened cluster) }) is

chosen_twice : {X : Type 0} (b : Bool) (p q r : X) → (if b then (if b then p else q) else r) ≡ (if b then p else r)
chosen_twice true p q r = refl
chosen_twice false p q r = refl

-- what a request becomes doesn't depend on the sessions of a stream whose variant isn't decided
pub requested_started : (cluster : List ℕ) (x : Stream) (m : Message) → requested (started cluster x) m ≡ requested x m
requested_started cluster x m =
    ap (λ ss. if is_foreign x m then Err WrongVariant else if_done (λ p. (p.0, record { variant = Some (variant_of m); count = x.count; sessions = p.1 })) (answered ss m))
    (chosen_twice (is_some x.variant) x.sessions (each (unopened cluster)) (each (unopened (cluster_of m))))

-- rule: first-variant
-- the first request decides the variant
pub requested_decides : (x : Stream) (m : Message) (z : Outcome × Stream) → requested x m ≡ Ok z → z.1.variant ≡ Some (variant_of m)
requested_decides x m z is = ap (λ (y : Stream). y.variant) (taken_by (is_foreign x m) x (variant_of m) (answered (sessions_for x m) m) z is).2

-- ---- a poll

undecided_first : (store : Store) (x : Stream) (ts : List TypeName) → x.variant ≡ None → first_due store x ts ≡ None
undecided_first store x [] none = refl
undecided_first store x (t ∷ ts) none =
    ap (λ o. if is_some (option_and_then (λ v. sessions.sending v t (at x.sessions t) (at store t).entries) o) then Some t else first_due store x ts) none ∙ undecided_first store x ts none

-- a stream whose variant isn't decided sends nothing
undecided_polls : (replica : ℕ) (store : Store) (x : Stream) (ts : List TypeName) → x.variant ≡ None → polled_first replica store x ts ≡ Ok (None, x)
undecided_polls replica store x ts none = ap (λ o. option_map_or (polled replica store x) o (Ok (None, x))) (undecided_first store x ts none)

-- a poll leaves the variant
pub polled_variant : (replica : ℕ) (store : Store) (x y : Stream) (ts : List TypeName) (o : Option Draft) → polled_first replica store x ts ≡ Ok (o, y) → y.variant ≡ x.variant
polled_variant replica store x y ts None is = ap (λ (z : Stream). z.variant) (poll_quiet replica store x y ts is)
polled_variant replica store x y ts (Some d) is = ap (λ (z : Stream). z.variant) (poll_sent replica store x y ts d is).left

-- and gives the same of the stream as it is for its client
pub polled_started : (replica : ℕ) (store : Store) (cluster : List ℕ) (x y : Stream) (ts : List TypeName) (o : Option Draft) → polled_first replica store x ts ≡ Ok (o, y) → polled_first replica store (started cluster x) ts ≡ Ok (o, started cluster y)
polled_started replica store cluster x y ts o is = by_variant x.variant refl
  where
    by_variant : (v : Option VariantName) → x.variant ≡ v → polled_first replica store (started cluster x) ts ≡ Ok (o, started cluster y)
    by_variant None none =
        let same = ok_is (None, x) (o, y) (sym (undecided_polls replica store x ts none) ∙ is) in
        undecided_polls replica store (started cluster x) ts none ∙ (λ i. Ok (ap (λ p. p.0) same i, started cluster (ap (λ p. p.1) same i)))
    by_variant (Some v) decided =
        ap (λ z. polled_first replica store z ts) (started_decided cluster x v decided) ∙ is
        ∙ ap (λ z. Ok (o, z)) (sym (started_decided cluster y v (polled_variant replica store x y ts o is ∙ decided)))

-- nor does it matter for what is owed
pub owes_started : (cluster : List ℕ) (store : Store) (x : Stream) (t : TypeName) → owes_of store (started cluster x) t ≡ owes_of store x t
owes_started cluster store x t = by_variant x.variant refl
  where
    by_variant : (v : Option VariantName) → x.variant ≡ v → owes_of store (started cluster x) t ≡ owes_of store x t
    by_variant None none =
        ap (λ o. option_map_or (λ v. sessions.owes v t (at (started cluster x).sessions t) (at store t).entries) o false) none
        ∙ ap (λ o. option_map_or (λ v. sessions.owes v t (at x.sessions t) (at store t).entries) o false) (sym none)
    by_variant (Some v) decided = ap (λ z. owes_of store z t) (started_decided cluster x v decided)

-- ---- who asks

-- of requests under way on a stream whose variant isn't decided: the oldest says the client's cluster, and where there is none, the
-- client will say it in the next
abbrev pub IsGreeting : Client → List Message → Type 0
IsGreeting c [] = c.greeted ≡ false
IsGreeting c (m ∷ ms) = cluster_of m ≡ c.cluster

abbrev pub Greets : Client → Stream → List Message → Type 0
Greets c x ms = x.variant ≡ None → IsGreeting c ms

pub oldest_greets : (c : Client) (x : Stream) (ms : List Message) (m : Message) (rest : List Message) → ms ≡ m ∷ rest → Greets c x ms → x.variant ≡ None → cluster_of m ≡ c.cluster
oldest_greets c x [] m rest is greets none = absurd cc
oldest_greets c x (k ∷ ms) m rest is greets none = ap cluster_of (sym (head_is k m ms rest is)) ∙ greets none
  where
    head_is : (a b : Message) (xs ys : List Message) → a ∷ xs ≡ b ∷ ys → a ≡ b
    head_is a b xs ys e = cc

-- one more behind them, or none
pub greeting_more : (c e : Client) (ms : List Message) (sent : Bool) (m : Message) → e.cluster ≡ c.cluster → (sent ≡ false → e.greeted ≡ c.greeted) → (c.greeted ≡ false → cluster_of m ≡ c.cluster) → IsGreeting c ms
    → IsGreeting e (ms ++ (if sent then m ∷ [] else []))
greeting_more c e [] true m cluster same says greets = says greets ∙ sym cluster
greeting_more c e [] false m cluster same says greets = same refl ∙ greets
greeting_more c e (k ∷ ms) sent m cluster same says greets = greets ∙ sym cluster

-- the first requests on a stream
module _ {X : Type 0} (tag : X → Message) (make : TypeName → Bool → X) (c : Client) (says : (t : TypeName) → cluster_of (tag (make t false)) ≡ c.cluster) where
  first_by : (some : Bool) (s : TypeName) (ss : List TypeName) → IsGreeting (linked (is_greeted c false ss) c) (firsts tag make c false ss) → IsGreeting (linked (is_greeted c (if some then true else false) ss) c) (firsts_by tag make c some false s ss)
  first_by true s ss later = says s
  first_by false s ss later = later

  -- rule: groups
  pub first_greets : (ts : List TypeName) → IsGreeting (linked (is_greeted c false ts) c) (firsts tag make c false ts)
  first_greets [] = refl
  first_greets (s ∷ ss) = first_by (wants_some (shelf c s).wants) s ss (first_greets ss)
