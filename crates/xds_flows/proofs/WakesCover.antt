-- A write changes what a stream is owed by names alone that the stream asked for.
use Rattle.std.proofs.Common.{◌≡◌, ◌≢◌, ⊎_elim, ℕ, List, [], ◌∷◌, ◌++◌, map, Bool, true, false, cond, ◌&&◌, ◌||◌, not, Option, Some, None, Result, Ok, Err, refl, sym, ap, subst, ◌∙◌}
use Rattle.std.specs.Prelude.{if◌then◌else◌, is_some, option_map, find, bytes_eq}
use Rattle.std.specs.Option.{option_map_or, option_and_then}
use Rattle.std.specs.List.{list_any}
use Rattle.std.specs.FinMap as finmap
use Rattle.std.specs.FinSet as set
use Rattle.std.proofs.lemmas.Bool.{true≢false, both_ways, or_parts, or_left}
use Rattle.std.proofs.lemmas.Cmp.{nat_list_cmp_total}
use Rattle.std.proofs.lemmas.List.Folds.{list_any_at, Any-from_list_any}
use Rattle.xds_resource.specs.declared.types.TypeName.{TypeName}
use Rattle.xds_resource.specs.declared.refusal.Refusal.{Refusal}
use Rattle.xds_resource.specs.declared.types.TypeName.TheVariants.{Cluster, Endpoint, Listener, Route, Secret}
use Rattle.xds_resource.specs.declared.refusal.Refusal.TheVariants.{CounterSpent}
use Rattle.xds_resource.specs.PerType.{at, each, with_at}
use Rattle.xds_resource.specs.Types.{types}
use Rattle.xds_resource.specs.Best.{greater, best}
use Rattle.xds_resource.specs.Writes.{StampedWrite}
use Rattle.xds_resource.specs.Resources.{written, deleted}
use Rattle.xds_resource.proofs.BestWrites.{best_of_both, greater-None}
use Rattle.xds_resource.proofs.NameMaps.{bytes_eq_swap, bytes_eq_same}
use Rattle.xds_resource.proofs.TypesApart.{at-with_at, at-with_at_other, same_type}
use Rattle.xds_resource.proofs.WriteTies.{text_cmp-IsAntisymmetric}
use Rattle.xds_resource.proofs.Refusing.{unless_once}
use Rattle.xds_interest.specs.Interests.{Selection, reaches, has_name, is_open_to}
use Rattle.xds_catalogue.specs.Holdings.{Holdings, Entries, IsCatalogue}
use Rattle.xds_catalogue.specs.Joins.{joined}
use Rattle.xds_catalogue.specs.Local.{next_counter}
use Rattle.xds_catalogue.proofs.Catalogues.{get-catalogue_of, best-values, catalogue_of-IsCatalogue}
use Rattle.xds_ledger.specs.declared.variant.VariantName.{VariantName}
use Rattle.xds_ledger.specs.declared.entry.Due.TheVariants.{Stated}
use Rattle.xds_ledger.specs.Variants.{is_whole, is_told}
use Rattle.xds_ledger.specs.Owed.{Beliefs, live_version, present_as, present, owed, owed_of, is_owed, something_owed, names_known}
use Rattle.xds_ledger.specs.Offers.{offer}
use Rattle.xds_ledger.specs.Ledgers as ledgers
use Rattle.xds_ledger.specs.Ledgers.{Account, is_refused}
use Rattle.xds_ledger.proofs.ByName.{nothing_owed, offer_says_it}
use Rattle.xds_ledger.proofs.Choosing.{none_passes, listed_fails}
use Rattle.xds_core.specs.Events.{Event, Open, Request, Poll, Owes, Close, Put, Delete, Merge, Snapshot, Rest, Since, Reply, Written, Merged}
use Rattle.xds_core.specs.Laws.{is_write, stream_changed}
use Rattle.xds_core.specs.Legal.{left_by}
use Rattle.xds_core.specs.Steps.{Core, step}
use Rattle.xds_core.specs.Stores.{Store, Batch, merged, merging, is_spent, grown, putting_at, deleting_at}
use Rattle.xds_core.specs.Streams.{Stream, owes_of, to_send, first_due}
use Rattle.xds_core.proofs.StepLaws.{only_writes_change_the_store, streams_stand_apart, done_with, put_is, delete_is}
use Rattle.xds_node.specs.Concerns.{only, written_names, writes, asks, IsInBoth, IsConcernOf, may_meet}
use Rattle.xds_node.specs.Wakes.{due_at}
use Rattle.xds_flows.specs.WakeLaws.{HoldsCatalogues, CoversWrites, Wants, OnlyReachedWritesCount, WakesCoverTheOwed, WakesCoverTheDue, WakesCoverTheHeld}
use Rattle.xds_node.specs.declared.node.concern.Concern.{Concern}
use Rattle.xds_node.proofs.Covers.{never_fewer}

-- ---- entries: a name that isn't written keeps its own

best_none : (ws : List StampedWrite) (q : List ℕ) → has_name (map (λ w. w.name) ws) q ≡ false → best ws q ≡ None
best_none [] q none = refl
best_none (w ∷ ws) q none =
    let parts = or_parts (bytes_eq q w.name) (has_name (map (λ x. x.name) ws) q) none in
    (λ i. greater (if (bytes_eq_swap w.name q ∙ parts.0) i then Some w else None) (best_none ws q parts.1 i))

joined_keeps : (h : Holdings) (ws : List StampedWrite) (q : List ℕ) → IsCatalogue h.entries → has_name (map (λ w. w.name) ws) q ≡ false
    → finmap.get (joined h ws).entries q ≡ finmap.get h.entries q
joined_keeps h ws q catalogue none =
    get-catalogue_of (finmap.values h.entries ++ ws) q ∙ best_of_both (finmap.values h.entries) ws q ∙ ap (greater (best (finmap.values h.entries) q)) (best_none ws q none)
    ∙ greater-None (best (finmap.values h.entries) q) ∙ best-values h.entries catalogue q

-- what a write of one type leaves
one_keeps : (p : Store) (u t : TypeName) (w : StampedWrite) (q : List ℕ) → HoldsCatalogues p → has_name (if at (only u) t then w.name ∷ [] else []) q ≡ false
    → finmap.get (at (with_at p u (joined (at p u) (w ∷ []))) t).entries q ≡ finmap.get (at p t).entries q
one_keeps p u t w q held none =
    ⊎_elim
    (λ here.
    subst (λ s. finmap.get (at (with_at p u (joined (at p u) (w ∷ []))) s).entries q ≡ finmap.get (at p s).entries q) (sym here.0)
    (ap (λ (h : Holdings). finmap.get h.entries q) (at-with_at p u (joined (at p u) (w ∷ [])))
    ∙ joined_keeps (at p u) (w ∷ []) q (held u)
    (ap (λ (b : Bool). has_name (if b then w.name ∷ [] else []) q) (sym (ap (at (only u)) here.0 ∙ at-with_at (each false) u true)) ∙ none)))
    (λ other. ap (λ (h : Holdings). finmap.get h.entries q) (at-with_at_other p u (joined (at p u) (w ∷ [])) t other.0)) (same_type t u)

at-merged : (p : Store) (b : Batch) (t : TypeName) → at (merged p b) t ≡ joined (at p t) (at b t)
at-merged p b Cluster = refl
at-merged p b Endpoint = refl
at-merged p b Listener = refl
at-merged p b Route = refl
at-merged p b Secret = refl

-- what isn't a write leaves the store
unwritten_store : (c later : Core) (e : Event) (reply : Reply) → is_write e ≡ false → step c e ≡ Ok (reply, later) → later.store ≡ c.store
unwritten_store c later e reply other is = ap (λ (k : Core). k.store) (sym (ap (left_by c) is)) ∙ only_writes_change_the_store c e other

kept_entry : (c later : Core) (e : Event) (reply : Reply) (t : TypeName) (q : List ℕ) → is_write e ≡ false → step c e ≡ Ok (reply, later)
    → finmap.get (at later.store t).entries q ≡ finmap.get (at c.store t).entries q
kept_entry c later e reply t q other is = ap (λ (p : Store). finmap.get (at p t).entries q) (unwritten_store c later e reply other is)

unwritten : (c later : Core) (e : Event) (reply : Reply) (t : TypeName) (q : List ℕ) → HoldsCatalogues c.store → step c e ≡ Ok (reply, later) → has_name (written_names e t) q ≡ false
    → finmap.get (at later.store t).entries q ≡ finmap.get (at c.store t).entries q
unwritten c later Open reply t q held is none = kept_entry c later Open reply t q refl is
unwritten c later (Request n m) reply t q held is none = kept_entry c later (Request n m) reply t q refl is
unwritten c later (Poll n which) reply t q held is none = kept_entry c later (Poll n which) reply t q refl is
unwritten c later (Owes n which) reply t q held is none = kept_entry c later (Owes n which) reply t q refl is
unwritten c later (Close n) reply t q held is none = kept_entry c later (Close n) reply t q refl is
unwritten c later (Put u r groups) reply t q held is none =
    let made = done_with (λ p. (Written p.0 c.replica, record c { store = p.1 })) (putting_at c.store u r groups c.replica) (reply, later) is in
    let store = ap (λ x. x.1.store) made.2 ∙ (put_is c.store u r groups c.replica made.0 made.1).1 in
    ap (λ (p : Store). finmap.get (at p t).entries q) store ∙ one_keeps c.store u t (written (next_counter (at c.store u)) c.replica r groups) q held none
unwritten c later (Delete u name) reply t q held is none =
    let made = done_with (λ p. (Written p.0 c.replica, record c { store = p.1 })) (deleting_at c.store u name c.replica) (reply, later) is in
    let store = ap (λ x. x.1.store) made.2 ∙ (delete_is c.store u name c.replica made.0 made.1).1 in
    ap (λ (p : Store). finmap.get (at p t).entries q) store ∙ one_keeps c.store u t (deleted (next_counter (at c.store u)) c.replica name) q held none
unwritten c later (Merge b) reply t q held is none =
    let made = done_with (λ p. (Merged p.0, record c { store = p.1 })) (merging c.store b) (reply, later) is in
    let store = ap (λ x. x.1.store) made.2 ∙ ap (λ x. x.1) (unless_once (is_spent c.store b) CounterSpent (grown c.store b, merged c.store b) made.0 made.1) in
    ap (λ (p : Store). finmap.get (at p t).entries q) store ∙ ap (λ (h : Holdings). finmap.get h.entries q) (at-merged c.store b t) ∙ joined_keeps (at c.store t) (at b t) q (held t) none
unwritten c later Snapshot reply t q held is none = kept_entry c later Snapshot reply t q refl is
unwritten c later (Rest u names version cluster) reply t q held is none = kept_entry c later (Rest u names version cluster) reply t q refl is
unwritten c later (Since marks) reply t q held is none = kept_entry c later (Since marks) reply t q refl is

-- ---- what is present: of a name that isn't reached, nothing

unreached_at : (s : Selection) (q : List ℕ) (o : Option StampedWrite) → reaches s q ≡ false → present_as s q o ≡ None
unreached_at s q None none = refl
unreached_at s q (Some w) none =
    let parts = or_parts s.star (set.contains s.names q) none in
    (λ i. if parts.1 i || (parts.0 i && is_open_to w.groups s.cluster) then live_version w else None)

present_kept_at : (s : Selection) (m n : Entries) (names : List (List ℕ)) (q : List ℕ) (b : Bool) → has_name names q ≡ b → (has_name names q ≡ false → finmap.get n q ≡ finmap.get m q)
    → list_any (reaches s) names ≡ false → present s n q ≡ present s m q
present_kept_at s m n names q false unnamed kept none = ap (present_as s q) (kept unnamed)
present_kept_at s m n names q true named kept none =
    let out = listed_fails (reaches s) names q none named in
    unreached_at s q (finmap.get n q) out ∙ sym (unreached_at s q (finmap.get m q) out)

-- ---- what is owed

same_test : (x y : Bool) → (x ≡ false → y ≡ false) → (y ≡ false → x ≡ false) → y ≡ x
same_test true true there back = refl
same_test false false there back = refl
same_test false true there back = there refl
same_test true false there back = sym (back refl)

module _ (v : VariantName) (t : TypeName) (s : Selection) (m n : Entries) (same : (q : List ℕ) → present s n q ≡ present s m q) where
  same_owed : (b : Beliefs) (q : List ℕ) → owed_of s n b q ≡ owed_of s m b q
  same_owed b q = ap (owed (finmap.get b q)) (same q)

  same_is_owed : (b : Beliefs) (q : List ℕ) → is_owed v t s n b q ≡ is_owed v t s m b q
  same_is_owed b q = ap (λ o. option_map_or (is_told v t) o false) (same_owed b q)

  same_something : (b : Beliefs) → something_owed v t s n b ≡ something_owed v t s m b
  same_something b = same_test (something_owed v t s m b) (something_owed v t s n b)
      (λ none. none_passes (is_owed v t s n b) (λ q. same_is_owed b q ∙ nothing_owed v t s m b q none) (names_known n b))
      (λ none. none_passes (is_owed v t s m b) (λ q. sym (same_is_owed b q) ∙ nothing_owed v t s n b q none) (names_known m b))

  same_offer : (b : Beliefs) → offer v t s n b ≡ offer v t s m b
  same_offer b = finmap.same_map nat_list_cmp_total text_cmp-IsAntisymmetric _ _ (λ q.
      offer_says_it v t s n b q
      ∙ (λ i. if is_whole v t then option_map Stated (same q i) else if same_is_owed b q i then same_owed b q i else None)
      ∙ sym (offer_says_it v t s m b q))

  same_due : (a : Account) → ledgers.is_due v t s n a ≡ ledgers.is_due v t s m a
  same_due a = ap (λ b. b || (is_whole v t && not a.accepted)) (same_something a.beliefs)

  same_owes : (a : Account) → ledgers.owes v t s n a ≡ ledgers.owes v t s m a
  same_owes a = ap (λ b. is_some a.sent || b) (same_due a)

  same_sending : (a : Account) → ledgers.sending v t s n a ≡ ledgers.sending v t s m a
  same_sending a i =
      if (not (is_some a.sent) && same_due a i) && not (is_refused a (same_offer a.beliefs i)) then Some (same_offer a.beliefs i) else None

-- rule: wake-ups, rule: owed
pub only_reached_writes_count : OnlyReachedWritesCount
only_reached_writes_count c later e reply s t held is none =
    let k = at s.sessions t in
    let same : (q : List ℕ) → present k.asked.interest (at later.store t).entries q ≡ present k.asked.interest (at c.store t).entries q =
    λ q. present_kept_at k.asked.interest (at c.store t).entries (at later.store t).entries (written_names e t) q (has_name (written_names e t) q) refl
    (unwritten c later e reply t q held is) none in (
      (λ i. option_map_or (λ v. k.asked.begun && same_owes v t k.asked.interest (at c.store t).entries (at later.store t).entries same k.account i) s.variant false),
      (λ i. option_and_then (λ v. if k.asked.begun then same_sending v t k.asked.interest (at c.store t).entries (at later.store t).entries same k.account i else None) s.variant),
    )

-- ---- who is owed something

-- a name that is written, and that a stream reaches, is in both
shared_name : (e : Event) (s : Stream) (t : TypeName) (made wants : Concern) → CoversWrites made e → Wants wants s
    → list_any (reaches (at s.sessions t).asked.interest) (written_names e t) ≡ true → (name : List ℕ) × IsInBoth made wants t name
shared_name e s t made wants of_event of_stream some =
    let there = Any-from_list_any (reaches (at s.sessions t).asked.interest) (written_names e t) some in
    let name = there.1 in
    let named : writes e t name ≡ true = list_any_at (bytes_eq name) (written_names e t) there.0 name there.2 (ap (bytes_eq name) there.3 ∙ bytes_eq_same name) in
    (name, (of_event t name named, of_stream.names t name there.4))

-- that of an event covers what it writes
covers_writes : (e : Event) (made : Concern) → IsConcernOf e made → CoversWrites made e
covers_writes e made of_event t name named = of_event.covered t name (or_left (writes e t name) (asks e t name) named)

by_test : {P : Type 0} (b x y : Bool) → (b ≡ false → y ≡ x) → x ≡ false → y ≡ true → (b ≡ true → P) → P
by_test true x y same was now gives = gives refl
by_test false x y same was now gives = absurd (both_ways x was (sym (same refl) ∙ now))

-- rule: wake-ups, rule: owed
pub wakes_cover_the_owed : WakesCoverTheOwed
wakes_cover_the_owed c later e reply s t made wants held is of_event of_stream was now =
    by_test (list_any (reaches (at s.sessions t).asked.interest) (written_names e t)) (owes_of c.store s t) (owes_of later.store s t)
    (λ none. (only_reached_writes_count c later e reply s t held is none).0) was now (shared_name e s t made wants (covers_writes e made of_event) of_stream)

-- ---- who is due a response

differs_at : (p q : TypeName → Bool) (u : TypeName) (a b : Bool) (x y : Option TypeName) → p u ≡ a → q u ≡ b → (is_some x ≡ false → is_some y ≡ true → (t : TypeName) × (p t ≡ false) × (q t ≡ true))
    → is_some (cond a (Some u) x) ≡ false → is_some (cond b (Some u) y) ≡ true → (t : TypeName) × (p t ≡ false) × (q t ≡ true)
differs_at p q u true b x y pu qu later was now = absurd (true≢false was)
differs_at p q u false true x y pu qu later was now = (u, pu, qu)
differs_at p q u false false x y pu qu later was now = later was now

-- a type that is found now, and wasn't before
some_differs : (p q : TypeName → Bool) (ts : List TypeName) → is_some (find p ts) ≡ false → is_some (find q ts) ≡ true → (t : TypeName) × (p t ≡ false) × (q t ≡ true)
some_differs p q [] was now = absurd (true≢false (sym now))
some_differs p q (u ∷ ts) was now = differs_at p q u (p u) (q u) (find p ts) (find q ts) refl refl (some_differs p q ts) was now

no_stream : (e : Event) (c : Core) (n : ℕ) → is_write e ≡ true → stream_changed c e ≢ Some n
no_stream Open c n write = absurd (true≢false (sym write))
no_stream (Request k m) c n write = absurd (true≢false (sym write))
no_stream (Poll k which) c n write = absurd (true≢false (sym write))
no_stream (Owes k which) c n write = absurd (true≢false (sym write))
no_stream (Close k) c n write = absurd (true≢false (sym write))
no_stream (Put t r groups) c n write = λ e. absurd cc
no_stream (Delete t name) c n write = λ e. absurd cc
no_stream (Merge b) c n write = λ e. absurd cc
no_stream Snapshot c n write = absurd (true≢false (sym write))
no_stream (Rest t names version cluster) c n write = absurd (true≢false (sym write))
no_stream (Since marks) c n write = absurd (true≢false (sym write))

due_is : (c : Core) (n : ℕ) (s : Stream) (b : Bool) → finmap.get c.streams n ≡ Some s → due_at c n ≡ Some b → is_some (first_due c.store s types) ≡ b
due_is c n s b there is = some_same (ap (option_map (λ (k : Stream). is_some (first_due c.store k types))) (sym there) ∙ is) where
  or_else : Bool → Option Bool → Bool
  or_else d None = d
  or_else d (Some x) = x

  some_same : {x y : Bool} → Some x ≡ Some y → x ≡ y
  some_same {x} e = ap (or_else x) e

-- where a response of a type is due that wasn't before
due_meets : (c later : Core) (e : Event) (reply : Reply) (s : Stream) (t : TypeName) (made wants : Concern) → HoldsCatalogues c.store → step c e ≡ Ok (reply, later) → CoversWrites made e → Wants wants s
    → is_some (to_send c.store s t) ≡ false → is_some (to_send later.store s t) ≡ true → may_meet made wants ≡ true
due_meets c later e reply s t made wants held is of_event of_stream was now =
    let shared = by_test (list_any (reaches (at s.sessions t).asked.interest) (written_names e t)) (is_some (to_send c.store s t)) (is_some (to_send later.store s t))
    (λ none. ap (λ o. is_some o) (only_reached_writes_count c later e reply s t held is none).1) was now (shared_name e s t made wants of_event of_stream) in
    never_fewer made wants t shared.0 shared.1

-- the same of any type
stream_meets : (c later : Core) (e : Event) (reply : Reply) (n : ℕ) (s : Stream) (made wants : Concern) → HoldsCatalogues c.store → stream_changed c e ≢ Some n → step c e ≡ Ok (reply, later)
    → finmap.get c.streams n ≡ Some s → CoversWrites made e → Wants wants s → due_at c n ≡ Some false → due_at later n ≡ Some true → may_meet made wants ≡ true
stream_meets c later e reply n s made wants held apart is there of_event of_stream was now =
    let still = ap (λ (k : Core). finmap.get k.streams n) (sym (ap (left_by c) is)) ∙ streams_stand_apart c e n apart ∙ there in
    let differs = some_differs (λ t. is_some (to_send c.store s t)) (λ t. is_some (to_send later.store s t)) types (due_is c n s false there was) (due_is later n s true still now) in
    due_meets c later e reply s differs.0 made wants held is of_event of_stream differs.1 differs.2

-- rule: wake-ups
pub wakes_cover_the_due : WakesCoverTheDue
wakes_cover_the_due c later e reply n s made wants held write is there of_event of_stream was now =
    stream_meets c later e reply n s made wants held (no_stream e c n write) is there (covers_writes e made of_event) of_stream was now

-- ---- one event after another

joined_sound : (p : Store) (u t : TypeName) (ws : List StampedWrite) → HoldsCatalogues p → IsCatalogue (at (with_at p u (joined (at p u) ws)) t).entries
joined_sound p u t ws held =
    ⊎_elim
    (λ here. subst (λ (h : Holdings). IsCatalogue h.entries) (sym (ap (at (with_at p u (joined (at p u) ws))) here.0 ∙ at-with_at p u (joined (at p u) ws)))
    (catalogue_of-IsCatalogue (finmap.values (at p u).entries ++ ws)))
    (λ other. subst (λ (h : Holdings). IsCatalogue h.entries) (sym (at-with_at_other p u (joined (at p u) ws) t other.0)) (held t)) (same_type t u)

stays_sound : (p q : Store) → q ≡ p → HoldsCatalogues p → HoldsCatalogues q
stays_sound p q same held = subst HoldsCatalogues (sym same) held

-- each write still stands under its own name
pub still_sound : (c later : Core) (e : Event) (reply : Reply) → HoldsCatalogues c.store → step c e ≡ Ok (reply, later) → HoldsCatalogues later.store
still_sound c later Open reply held is = stays_sound c.store later.store (unwritten_store c later Open reply refl is) held
still_sound c later (Request n m) reply held is = stays_sound c.store later.store (unwritten_store c later (Request n m) reply refl is) held
still_sound c later (Poll n which) reply held is = stays_sound c.store later.store (unwritten_store c later (Poll n which) reply refl is) held
still_sound c later (Owes n which) reply held is = stays_sound c.store later.store (unwritten_store c later (Owes n which) reply refl is) held
still_sound c later (Close n) reply held is = stays_sound c.store later.store (unwritten_store c later (Close n) reply refl is) held
still_sound c later (Put u r groups) reply held is =
    let made = done_with (λ p. (Written p.0 c.replica, record c { store = p.1 })) (putting_at c.store u r groups c.replica) (reply, later) is in
    let store = ap (λ x. x.1.store) made.2 ∙ (put_is c.store u r groups c.replica made.0 made.1).1 in
    stays_sound _ later.store store (λ t. joined_sound c.store u t (written (next_counter (at c.store u)) c.replica r groups ∷ []) held)
still_sound c later (Delete u name) reply held is =
    let made = done_with (λ p. (Written p.0 c.replica, record c { store = p.1 })) (deleting_at c.store u name c.replica) (reply, later) is in
    let store = ap (λ x. x.1.store) made.2 ∙ (delete_is c.store u name c.replica made.0 made.1).1 in
    stays_sound _ later.store store (λ t. joined_sound c.store u t (deleted (next_counter (at c.store u)) c.replica name ∷ []) held)
still_sound c later (Merge b) reply held is =
    let made = done_with (λ p. (Merged p.0, record c { store = p.1 })) (merging c.store b) (reply, later) is in
    let store = ap (λ x. x.1.store) made.2 ∙ ap (λ x. x.1) (unless_once (is_spent c.store b) CounterSpent (grown c.store b, merged c.store b) made.0 made.1) in
    stays_sound (merged c.store b) later.store store
    (λ t. subst (λ (h : Holdings). IsCatalogue h.entries) (sym (at-merged c.store b t)) (catalogue_of-IsCatalogue (finmap.values (at c.store t).entries ++ at b t)))
still_sound c later Snapshot reply held is = stays_sound c.store later.store (unwritten_store c later Snapshot reply refl is) held
still_sound c later (Rest u names version cluster) reply held is = stays_sound c.store later.store (unwritten_store c later (Rest u names version cluster) reply refl is) held
still_sound c later (Since marks) reply held is = stays_sound c.store later.store (unwritten_store c later (Since marks) reply refl is) held

due_there : (c : Core) (n : ℕ) (s : Stream) → finmap.get c.streams n ≡ Some s → due_at c n ≡ Some (is_some (first_due c.store s types))
due_there c n s there = ap (option_map (λ (k : Stream). is_some (first_due c.store k types))) there

-- an event elsewhere, after which a response is due, or is due by what happens then
held_on : (c : Core) (e : Event) (r : Result (Reply × Core) Refusal) (n : ℕ) (s : Stream) (made wants : Concern) → step c e ≡ r → HoldsCatalogues c.store → stream_changed c e ≢ Some n → CoversWrites made e
    → finmap.get c.streams n ≡ Some s → Wants wants s → due_at c n ≡ Some false → finmap.get (left_by c r).streams n ≡ Some s
    → (HoldsCatalogues (left_by c r).store → due_at (left_by c r) n ≡ Some false → may_meet made wants ≡ true) → may_meet made wants ≡ true
held_on c e (Ok p) n s made wants is held apart of_event there of_stream was still later = held_at (is_some (first_due p.1.store s types)) (due_there p.1 n s still) where
  held_at : (b : Bool) → due_at p.1 n ≡ Some b → may_meet made wants ≡ true
  held_at true now = stream_meets c p.1 e p.0 n s made wants held apart is there of_event of_stream was now
  held_at false none = later (still_sound c p.1 e p.0 held is) none
held_on c e (Err refusal) n s made wants is held apart of_event there of_stream was still later = later held was

abbrev some_bool : Option Bool → Bool
some_bool None = true
some_bool (Some b) = b

-- rule: wake-ups
pub wakes_cover_the_held : WakesCoverTheHeld
wakes_cover_the_held c [] n s made wants held elsewhere covered there of_stream was now = absurd (true≢false (sym (ap some_bool now) ∙ ap some_bool was))
wakes_cover_the_held c (e ∷ es) n s made wants held elsewhere covered there of_stream was now =
    held_on c e (step c e) n s made wants refl held elsewhere.0 covered.0 there of_stream was (streams_stand_apart c e n elsewhere.0 ∙ there)
    (λ sound none. wakes_cover_the_held (left_by c (step c e)) es n s made wants sound elsewhere.1 covered.1 (streams_stand_apart c e n elsewhere.0 ∙ there) of_stream none now)
