-- From whatever base: what a replica sends and deletes can be told, where what it holds is tellable and what it takes could be read.
use Rattle.std.proofs.Common.{◌≡◌, ◌≢◌, ◌⊎◌, inl, inr, ℕ, ◌+◌, ◌≤◌, List, [], ◌∷◌, ◌++◌, map, Bool, true, false, Option, Some, None, Result, Ok, Err, refl, sym, ap, subst, ◌∙◌, arith}
use Rattle.std.specs.Prelude.{not, is_some, IfSome, IfOk, IsOk, All, ⊤, nat_lt, ◌==◌}
use Rattle.std.specs.List.{filter, filter_map, cons_option}
use Rattle.std.specs.Option.{ForSome, option_map, option_map_or, option_and_then}
use Rattle.std.specs.FinMap as finmap
use Rattle.std.proofs.lemmas.Bool.{lt-ltb}
use Rattle.std.proofs.lemmas.List.Elements.{All-nil, All-cons, All-head, All-tail, All-append, All-filter, All-weaker}
use Rattle.std.proofs.lemmas.Option.{MatchOption-at_some}
use Rattle.xds_resource.specs.declared.types.TypeName.{TypeName}
use Rattle.xds_resource.specs.declared.refusal.Refusal.{Refusal}
use Rattle.xds_resource.specs.declared.refusal.Refusal.TheVariants.{OutOfMemory, BadTrace, NoStream, NonceSpent, CounterSpent, NotFound}
use Rattle.xds_resource.specs.PerType.{PerType, at, with_at}
use Rattle.xds_resource.specs.Refusals.{unless_refused}
use Rattle.xds_resource.specs.Resources.{NamedBody, IsCanonical, IsWritable, is_valid_name, from_value, value_of, written, deleted}
use Rattle.xds_resource.specs.Stamps.{max_counter}
use Rattle.xds_resource.specs.Types.{is_same_type}
use Rattle.xds_resource.specs.Writes.{StampedWrite, version_of}
use Rattle.xds_resource.proofs.MadeMaps.{EachFound, each_found}
use Rattle.xds_resource.proofs.Naming.{canonical-valid}
use Rattle.xds_resource.proofs.Refusing.{memory_or_not, unless_once}
use Rattle.xds_resource.proofs.TypesApart.{same_type, at-with_at, at-with_at_other, at-per_type}
use Rattle.xds_message.proofs.StampedWriteLemmas.{from_value-canonical}
use Rattle.xds_catalogue.specs.Content.{is_live, is_shown}
use Rattle.xds_catalogue.specs.Holdings.{Entries, Holdings, IsCatalogue, IsNumbered}
use Rattle.xds_catalogue.specs.Joins.{joined}
use Rattle.xds_catalogue.specs.Local.{has_live, next_counter, spent_conditions}
use Rattle.xds_catalogue.specs.Next.{NoneAfter, IsNextChange}
use Rattle.xds_catalogue.proofs.Catalogues.{get-catalogue_of, catalogue_of-IsCatalogue}
use Rattle.xds_message.specs.declared.draft.Draft.{Draft}
use Rattle.xds_message.specs.Drafts.{DraftedResource}
use Rattle.xds_ledger.specs.declared.variant.VariantName.{VariantName}
use Rattle.xds_ledger.specs.declared.variant.VariantName.TheVariants as variants
use Rattle.xds_ledger.specs.Offers.{Offer}
use Rattle.xds_ledger.proofs.LookedAt.{LookedAt, one_looked_at, all_looked_at}
use Rattle.xds_sessions.specs.SotwPolls.{stated_writes}
use Rattle.xds_sessions.specs.DeltaPolls.{resource_of, resource_at, names_where, is_statement}
use Rattle.xds_ledger.specs.Sessions.{Session}
use Rattle.xds_core.specs.Stores.{Batch, Store, merging, putting_at, deleting_at, is_spent, grown, merged, if_done}
use Rattle.xds_core.specs.Streams.{Stream, response_of, responding, to_send, polled, first_due, polled_first, looked_at, sent}
use Rattle.xds_core.specs.Events.{Event, Open, Request, Poll, Owes, Close, Put, Delete, Merge, Snapshot, Rest, Since, Reply, Polled, Written, Merged}
use Rattle.xds_core.specs.Laws.{is_write}
use Rattle.xds_core.specs.Legal.{Record, IsLegal, after, answer_of, left_by}
use Rattle.xds_core.specs.Steps.{Core, Step, step, with_stream}
use Rattle.xds_core.proofs.StepLaws.{only_writes_change_the_store, beginnings_are_legal, put_is, delete_is}
use Rattle.xds_trace.specs.Making.{IsSound}
use Rattle.xds_trace.specs.Telling.{IsResource, HoldsResources, IsToldDeletion, IsToldSent, IsToldResponse, IsToldAnswer, IsToldBy, IsTold, IsSoundRecord, BeginsUntold}
use Rattle.xds_trace.proofs.Writes.{best_one}
use Rattle.xds_trace.specs.Bases.{IsTellable, AreTellable, HoldsTellable, EveryRecordIsToldFromItsBase}

-- ---- writes that could be read

is_ok : (o : Result NamedBody Refusal) (r : NamedBody) → o ≡ Ok r → IsOk o
is_ok (Ok x) r is = refl
is_ok (Err e) r is = absurd cc

pub canonical_resource : (t : TypeName) (r : NamedBody) → IsCanonical t r → IsResource t r.body
canonical_resource t r canonical = is_ok (from_value t (value_of r.body)) r (from_value-canonical t r canonical)

pub body_tellable : (t : TypeName) (name : List ℕ) (o : Option (List ℕ)) → ForSome o (λ b. IsCanonical t (record { name = name; body = b })) → IfSome o (IsResource t)
body_tellable t name None canonical = tt
body_tellable t name (Some b) canonical = canonical_resource t (record { name = name; body = b }) (canonical b refl)

pub writable_tellable : (t : TypeName) (w : StampedWrite) → IsWritable t w → IsTellable t w
writable_tellable t w writable = (writable.named, body_tellable t w.name w.body writable.body)

-- ---- the entries of a catalogue

entries_tellable : (t : TypeName) (m : Entries) (es : List (List ℕ × StampedWrite)) → AreTellable t m → EachFound m es → All (IsTellable t) (map (λ (e : List ℕ × StampedWrite). e.1) es)
entries_tellable t m [] all found = All-nil (IsTellable t)
entries_tellable t m (e ∷ es) all found =
    All-cons (IsTellable t) e.1 (map (λ (x : List ℕ × StampedWrite). x.1) es) (MatchOption-at_some ⊤ (IsTellable t) e.1 found.0 (all e.0)) (entries_tellable t m es all found.1)

values_tellable : (t : TypeName) (m : Entries) → AreTellable t m → All (IsTellable t) (finmap.values m)
values_tellable t m all = entries_tellable t m (finmap.entries m) all (each_found m)

abbrev IsHeld : TypeName → Holdings → Type 0
IsHeld t h = IsCatalogue h.entries × AreTellable t h.entries

joined_held : (t : TypeName) (h : Holdings) (ws : List StampedWrite) → IsHeld t h → All (IsTellable t) ws → IsHeld t (joined h ws)
joined_held t h ws held all =
    let both = finmap.values h.entries ++ ws in (
      catalogue_of-IsCatalogue both,
      λ name. subst (λ o. IfSome o (IsTellable t)) (sym (get-catalogue_of both name)) (best_one (IsTellable t) both name (All-append (IsTellable t) (finmap.values h.entries) ws (values_tellable t h.entries held.1) all)),
    )

-- ---- what events leave

held_at : (s : Store) (t : TypeName) (ws : List StampedWrite) (u : TypeName) → ((u ≡ t) × (is_same_type u t ≡ true)) ⊎ ((u ≢ t) × (is_same_type u t ≡ false)) → HoldsTellable s → All (IsTellable t) ws
    → IsHeld u (at (with_at s t (joined (at s t) ws)) u)
held_at s t ws u (inl same) held all =
    subst (λ v. IsHeld v (at (with_at s t (joined (at s t) ws)) v)) (sym same.0) (subst (IsHeld t) (sym (at-with_at s t (joined (at s t) ws))) (joined_held t (at s t) ws (held t) all))
held_at s t ws u (inr other) held all = subst (IsHeld u) (sym (at-with_at_other s t (joined (at s t) ws) u other.0)) (held u)

one_held : (s : Store) (t : TypeName) (w : StampedWrite) → HoldsTellable s → IsTellable t w → HoldsTellable (with_at s t (joined (at s t) (w ∷ [])))
one_held s t w held well u = held_at s t (w ∷ []) u (same_type u t) held (All-cons (IsTellable t) w [] well (All-nil (IsTellable t)))

all_held : (s : Store) (b : Batch) → HoldsTellable s → ((t : TypeName) → All (IsWritable t) (at b t)) → HoldsTellable (merged s b)
all_held s b held sound t =
    subst (IsHeld t) (sym (at-per_type (λ u. joined (at s u) (at b u)) t)) (joined_held t (at s t) (at b t) (held t) (All-weaker (IsWritable t) (IsTellable t) (writable_tellable t) (at b t) (sound t)))

done_held : (c : Core) (reply : ℕ → Reply) (r : Result (ℕ × Store) Refusal) (P : Type 0) → HoldsTellable c.store → ((q : ℕ × Store) → r ≡ Ok q → P → HoldsTellable q.1)
    → IfOk (answer_of (if_done (λ p. (reply p.0, record c { store = p.1 })) r)) (λ x. P) → HoldsTellable (left_by c (if_done (λ p. (reply p.0, record c { store = p.1 })) r)).store
done_held c reply (Ok q) P held made sound = made q refl sound
done_held c reply (Err e) P held made sound = held

others_held : (c : Core) (e : Event) → is_write e ≡ false → HoldsTellable c.store → HoldsTellable (after c e).store
others_held c e other held = subst HoldsTellable (sym (only_writes_change_the_store c e other)) held

-- ---- what is deleted

live_valid : (name : List ℕ) (t : TypeName) (o : Option StampedWrite) → option_map_or is_live o false ≡ true → IfSome o (λ w. w.name ≡ name) → IfSome o (IsTellable t) → is_valid_name name ≡ true
live_valid name t None is same well = absurd cc
live_valid name t (Some w) is same well = ap is_valid_name (sym same) ∙ well.0

module _ (c : Core) (t : TypeName) (name : List ℕ) where
  abbrev made_of : Result (ℕ × Holdings) Refusal → Step
  made_of r = if_done (λ (p : ℕ × Store). (Written p.0 c.replica, record c { store = p.1 })) (if_done (λ x. (x.0, with_at c.store t x.1)) r)

  made_told : (r : Result (ℕ × Holdings) Refusal) → is_valid_name name ≡ true → IfOk (answer_of (made_of r)) (IsToldDeletion name)
  made_told (Ok x) valid = valid
  made_told (Err e) valid = tt

  deletion_by : (live : Bool) (cs : List (Bool × Refusal)) (x : ℕ × Holdings) → (live ≡ true → is_valid_name name ≡ true) → IfOk (answer_of (made_of (unless_refused ((not live, NotFound) ∷ cs) x))) (IsToldDeletion name)
  deletion_by true cs x valid = made_told (unless_refused cs x) (valid refl)
  deletion_by false cs x valid = tt

  deletion_told : HoldsTellable c.store → IfOk (answer_of (step c (Delete t name))) (IsToldDeletion name)
  deletion_told held =
      let m = (at c.store t).entries in
      let h = at c.store t in
      deletion_by (has_live m name) (spent_conditions h) (next_counter h, joined h (deleted (next_counter h) c.replica name ∷ [])) (λ live. live_valid name t (finmap.get m name) live ((held t).0 name) ((held t).1 name))

-- ---- what is sent

body_next : (t : TypeName) (o : Option (List ℕ)) (rest : List (List ℕ)) → IfSome o (IsResource t) → All (IsResource t) rest → All (IsResource t) (cons_option o rest)
body_next t None rest here later = later
body_next t (Some b) rest here later = All-cons (IsResource t) b rest here later

bodies_held : (t : TypeName) (ws : List StampedWrite) → All (IsTellable t) ws → All (IsResource t) (filter_map (λ w. w.body) ws)
bodies_held t [] all = All-nil (IsResource t)
bodies_held t (w ∷ ws) all = body_next t w.body (filter_map (λ (x : StampedWrite). x.body) ws) (All-head (IsTellable t) w ws all).1 (bodies_held t ws (All-tail (IsTellable t) w ws all))

abbrev Drafts : TypeName → DraftedResource → Type 0
Drafts t r = IsResource t r.body

put_next : (t : TypeName) (w : StampedWrite) (o : Option (List ℕ)) (rest : List DraftedResource) → IfSome o (IsResource t) → All (Drafts t) rest
    → All (Drafts t) (cons_option (option_map (λ body. record { name = w.name; version = version_of w; body = body }) o) rest)
put_next t w None rest here later = later
put_next t w (Some b) rest here later = All-cons (Drafts t) (record { name = w.name; version = version_of w; body = b }) rest here later

resource_next : (t : TypeName) (o : Option StampedWrite) (rest : List DraftedResource) → IfSome o (IsTellable t) → All (Drafts t) rest → All (Drafts t) (cons_option (option_and_then resource_of o) rest)
resource_next t None rest here later = later
resource_next t (Some w) rest here later = put_next t w w.body rest here.1 later

resources_held : (t : TypeName) (m : Entries) (names : List (List ℕ)) → AreTellable t m → All (Drafts t) (filter_map (resource_at m) names)
resources_held t m [] all = All-nil (Drafts t)
resources_held t m (n ∷ ns) all = resource_next t (finmap.get m n) (filter_map (resource_at m) ns) (all n) (resources_held t m ns all)

module _ (replica : ℕ) (store : Store) (held : HoldsTellable store) where
  response_held : (ss : PerType Session) (t : TypeName) (o : Offer) (n : ℕ) (v : VariantName) → HoldsResources (response_of replica store ss t o n v)
  response_held ss t o n variants.StateOfTheWorld =
      let m = (at store t).entries in
      let s = (at ss t).asked.interest in
      bodies_held t (stated_writes m s o)
      (All-filter (λ (w : StampedWrite). is_some (finmap.get o w.name)) (IsTellable t) (filter (is_shown s) (finmap.values m)) (All-filter (is_shown s) (IsTellable t) (finmap.values m) (values_tellable t m (held t).1)))
  response_held ss t o n variants.Delta = resources_held t (at store t).entries (names_where is_statement o) (held t).1

  abbrev IsToldPoll : Result (Option Draft × Stream) Refusal → Type 0
  IsToldPoll r = IfOk r (λ p. IsToldSent p.0)

  sent_held : (ss : PerType Session) (t : TypeName) (o : Offer) (n : ℕ) (v : Option VariantName) → IsToldSent (option_map (response_of replica store ss t o n) v)
  sent_held ss t o n None = tt
  sent_held ss t o n (Some v) = response_held ss t o n v

  responding_by : (spent : Bool) (d : Option Draft) (s : Stream) → IsToldSent d → IsToldPoll (unless_refused ((spent, NonceSpent) ∷ []) (d, s))
  responding_by true d s told = tt
  responding_by false d s told = told

  polled_by : (s : Stream) (t : TypeName) (o : Option Offer) → IsToldPoll (option_map_or (responding replica store s t) o (Ok (None, s)))
  polled_by s t None = tt
  polled_by s t (Some o) = responding_by (s.count == max_counter) (option_map (response_of replica store s.sessions t o (s.count + 1)) s.variant) (sent s t o) (sent_held s.sessions t o (s.count + 1) s.variant)

  first_by : (s : Stream) (o : Option TypeName) → IsToldPoll (option_map_or (polled replica store s) o (Ok (None, s)))
  first_by s None = tt
  first_by s (Some t) = polled_by s t (to_send store s t)

module _ (c : Core) (n : ℕ) (which : Option TypeName) (held : HoldsTellable c.store) where
  reply_told : (r : Result (Option Draft × Stream) Refusal) → IfOk r (λ p. IsToldSent p.0) → IfOk (answer_of (if_done (λ p. (Polled p.0, with_stream c n p.1)) r)) IsToldResponse
  reply_told (Ok p) told = told
  reply_told (Err e) told = tt

  stream_told : (o : Option Stream)
      → IfOk (answer_of (option_map_or (λ s. if_done (λ p. (Polled p.0, with_stream c n p.1)) (polled_first c.replica c.store s (looked_at which))) o (Err NoStream))) IsToldResponse
  stream_told None = tt
  stream_told (Some s) = reply_told (polled_first c.replica c.store s (looked_at which)) (first_by c.replica c.store held s (first_due c.store s (looked_at which)))

-- ---- records

plainly : (e : Event) → ((reply : Reply) → IsToldAnswer e reply) → (a : Result Reply Refusal) → IsToldBy e a
plainly e told (Ok reply) = told reply
plainly e told (Err refusal) = tt

by_reply : (e : Event) (a : Result Reply Refusal) → IfOk a (IsToldAnswer e) → IsToldBy e a
by_reply e (Ok reply) told = told
by_reply e (Err refusal) told = tt

event_told : (c : Core) (e : Event) → HoldsTellable c.store → IsToldBy e (answer_of (step c e))
event_told c Open held = plainly Open (λ _. tt) (answer_of (step c Open))
event_told c (Request n m) held = plainly (Request n m) (λ _. tt) (answer_of (step c (Request n m)))
event_told c (Poll n which) held = by_reply (Poll n which) (answer_of (step c (Poll n which))) (stream_told c n which held (finmap.get c.streams n))
event_told c (Owes n which) held = plainly (Owes n which) (λ _. tt) (answer_of (step c (Owes n which)))
event_told c (Close n) held = plainly (Close n) (λ _. tt) (answer_of (step c (Close n)))
event_told c (Put t r groups) held = plainly (Put t r groups) (λ _. tt) (answer_of (step c (Put t r groups)))
event_told c (Delete t name) held = by_reply (Delete t name) (answer_of (step c (Delete t name))) (deletion_told c t name held)
event_told c (Merge b) held = plainly (Merge b) (λ _. tt) (answer_of (step c (Merge b)))
event_told c Snapshot held = tt
event_told c (Rest t names version cluster) held = tt
event_told c (Since marks) held = tt

-- a deletion that was made is of a name that may be a resource's
deleted_held : (c : Core) (t : TypeName) (name : List ℕ) (q : ℕ × Store) → deleting_at c.store t name c.replica ≡ Ok q → HoldsTellable c.store → HoldsTellable q.1
deleted_held c t name q is held =
    let told = subst (λ r. IfOk (answer_of (if_done (λ (p : ℕ × Store). (Written p.0 c.replica, record c { store = p.1 })) r)) (IsToldDeletion name)) is (deletion_told c t name held) in
    subst HoldsTellable (sym (delete_is c.store t name c.replica q is).1) (one_held c.store t (deleted (next_counter (at c.store t)) c.replica name) held (told, tt))

event_held : (c : Core) (e : Event) → HoldsTellable c.store → IfOk (answer_of (step c e)) (λ reply. IsSound e) → HoldsTellable (after c e).store
event_held c Open held sound = others_held c Open refl held
event_held c (Request n m) held sound = others_held c (Request n m) refl held
event_held c (Poll n which) held sound = others_held c (Poll n which) refl held
event_held c (Owes n which) held sound = others_held c (Owes n which) refl held
event_held c (Close n) held sound = others_held c (Close n) refl held
event_held c (Put t r groups) held sound =
    done_held c (λ n. Written n c.replica) (putting_at c.store t r groups c.replica) (IsCanonical t r) held
    (λ q is canonical. subst HoldsTellable (sym (put_is c.store t r groups c.replica q is).1)
    (one_held c.store t (written (next_counter (at c.store t)) c.replica r groups) held (canonical-valid t r canonical, canonical_resource t r canonical))) sound
event_held c (Delete t name) held sound =
    done_held c (λ n. Written n c.replica) (deleting_at c.store t name c.replica) ⊤ held (λ q is _. deleted_held c t name q is held) sound
event_held c (Merge b) held sound =
    done_held c Merged (merging c.store b) ((t : TypeName) → All (IsWritable t) (at b t)) held
    (λ q is all. subst HoldsTellable (sym (ap (λ (x : ℕ × Store). x.1) (unless_once (is_spent c.store b) CounterSpent (grown c.store b, merged c.store b) q is))) (all_held c.store b held all)) sound
event_held c Snapshot held sound = held
event_held c (Rest t names version cluster) held sound = held
event_held c (Since marks) held sound = held

pub told_from_base : EveryRecordIsToldFromItsBase
told_from_base c [] held legal sound = All-nil IsTold
told_from_base c (r ∷ rs) held legal sound =
    let taken = subst (λ a. IfOk a (λ reply. IsSound r.event)) (sym legal.0) (All-head IsSoundRecord r rs sound) in
    All-cons IsTold r rs (subst (IsToldBy r.event) legal.0 (event_told c r.event held)) (told_from_base (after c r.event) rs (event_held c r.event held taken) legal.1 (All-tail IsSoundRecord r rs sound))

-- so what is refused of them is refused for memory
pub short_from_base : (base : Core) (rs : List Record) (e : Refusal) → HoldsTellable base.store → IsLegal base rs → (e ≢ OutOfMemory → (e ≡ BadTrace) × BeginsUntold rs) → e ≡ OutOfMemory
short_from_base base rs e held legal told = which (memory_or_not e)
  where
    which : (e ≡ OutOfMemory) ⊎ (e ≢ OutOfMemory) → e ≡ OutOfMemory
    which (inl short) = short
    which (inr other) =
        let k = (told other).1 in
        absurd (k.untold (told_from_base base k.front held (beginnings_are_legal base k.front k.rest (subst (IsLegal base) k.joined legal)) k.sound))

-- ---- a walk along the changes of a catalogue

abbrev pub LookedThrough : TypeName → Holdings → ℕ → Type 0
LookedThrough t h last = LookedAt (λ name. IfSome (finmap.get h.entries name) (IsTellable t)) h 0 last

pub looked_further : (t : TypeName) (h : Holdings) (last number : ℕ) (w : StampedWrite) → IsNumbered h → IsNextChange h last number w → IsTellable t w → LookedThrough t h last → LookedThrough t h number
looked_further t h last number w numbered next well before =
    one_looked_at (λ name. IfSome (finmap.get h.entries name) (IsTellable t)) h 0 last number w numbered next (subst (λ o. IfSome o (IsTellable t)) (sym next.stands) well) before

since_start : (e : Option StampedWrite) (l : Option ℕ) (n : ℕ) (P : StampedWrite → Type 0) → is_some l ≡ is_some e → IfSome l (λ k. (1 ≤ k) × (k ≤ n)) → (option_map_or (nat_lt 0) l false ≡ true → IfSome e P) → IfSome e P
since_start None l n P same counted looked = tt
since_start (Some w) None n P same counted looked = absurd cc
since_start (Some w) (Some k) n P same counted looked = looked (lt-ltb 0 k (omega (arith, counted.0)))

pub all_looked_through : (t : TypeName) (h : Holdings) (last : ℕ) → IsNumbered h → NoneAfter h last → LookedThrough t h last → AreTellable t h.entries
all_looked_through t h last numbered none before name =
    since_start (finmap.get h.entries name) (finmap.get h.latest name) h.changes (IsTellable t) (numbered.each name) (numbered.counted name)
    (all_looked_at (λ q. IfSome (finmap.get h.entries q) (IsTellable t)) h 0 last none before name)
