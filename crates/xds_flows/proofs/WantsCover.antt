-- What a stream wants covers all that its requests asked for.
use Rattle.std.proofs.Common.{◌≡◌, ◌≢◌, ◌⊎◌, inl, inr, ⊎_elim, ℕ, ◌+◌, ◌==◌, List, [], ◌∷◌, length, Bool, true, false, ◌&&◌, ◌||◌, not, Option, Some, None, Result, Ok, Err, refl, sym, ap, subst, subst₂, ◌∙◌, arith}
use Rattle.std.specs.Prelude.{if◌then◌else◌, is_some, bytes_eq}
use Rattle.std.specs.Option.{option_map_or}
use Rattle.std.specs.List.{list_any, filter}
use Rattle.std.specs.Cmp.{nat_cmp_total}
use Rattle.std.specs.FinMap as finmap
use Rattle.std.specs.FinMap.{nat_cmp-IsAntisymmetric}
use Rattle.std.specs.FinSet as set
use Rattle.std.proofs.lemmas.Bool.{true≢false, both_ways, or_parts, or_cases, or_left, or_right, or_from, and_parts, and_from, and_left, and_right, cases_eq, not_from_false}
use Rattle.std.proofs.lemmas.List.Folds.{list_any-append}
use Rattle.std.proofs.lemmas.Option.{none-some}
use Rattle.xds_resource.specs.declared.types.TypeName.{TypeName}
use Rattle.xds_resource.specs.declared.types.TypeName.TheVariants.{Cluster, Endpoint, Listener, Route, Secret}
use Rattle.xds_resource.specs.declared.refusal.Refusal.{Refusal}
use Rattle.xds_resource.specs.declared.refusal.Refusal.TheVariants.{BadMessage, WrongVariant, NonceSpent, NoStream}
use Rattle.xds_resource.specs.PerType.{PerType, at, each, with_at}
use Rattle.xds_resource.specs.Stamps.{max_counter}
use Rattle.xds_resource.specs.Types.{row, type_of_url}
use Rattle.xds_resource.specs.Writes.{text_cmp}
use Rattle.xds_resource.proofs.TypesApart.{at-with_at, at-with_at_other, at-each, same_type}
use Rattle.xds_resource.proofs.Refusing.{unless_once, ok_same}
use Rattle.xds_interest.specs.Asked.{Asked, everything, sotw_asked, delta_asked, names_after}
use Rattle.xds_interest.specs.Delta.{Mention}
use Rattle.xds_interest.specs.Interests.{reaches, star_text, is_star, has_name, names_among}
use Rattle.xds_interest.specs.SotW.{is_named, listed}
use Rattle.xds_interest.proofs.Texts.{contains-from_texts, has_name-items}
use Rattle.xds_catalogue.proofs.Lookups.{get-inserted, get-removed}
use Rattle.xds_ledger.specs.Offers.{Offer}
use Rattle.xds_ledger.specs.Sessions as sessions
use Rattle.xds_ledger.specs.Sessions.{Session, unopened, is_stale, sotw_names, delta_names}
use Rattle.xds_ledger.specs.declared.outcome.Outcome.{Outcome}
use Rattle.xds_ledger.specs.declared.variant.VariantName.TheVariants as variants
use Rattle.xds_ledger.specs.declared.variant.VariantName.TheVariants.{StateOfTheWorld}
use Rattle.xds_sessions.specs.DeltaPolls.{mention, answer_in}
use Rattle.xds_message.specs.declared.draft.Draft.{Draft}
use Rattle.xds_core.specs.Events as events
use Rattle.xds_core.specs.Events.{Event, Reply}
use Rattle.xds_core.specs.Laws.{stream_changed}
use Rattle.xds_core.specs.Legal.{left_by}
use Rattle.xds_core.specs.Steps.{Core, step, with_stream, on_stream}
use Rattle.xds_core.specs.Stores.{Store, if_done}
use Rattle.xds_core.specs.Streams.{Stream, Message, Sotw, Delta, url_of, cluster_of, variant_of, is_foreign, session_after, answered_by, answered, sessions_for, requested, to_send, responding, sent, polled, looked_at, first_due, polled_first}
use Rattle.xds_core.proofs.StepLaws.{streams_stand_apart, done_with}
use Rattle.xds_node.specs.Concerns.{set_of, only, asked_for, meets, covers, lists_it, names_it, subscribes_nothing, IsConcernOf, IsJoined}
use Rattle.xds_flows.specs.WakeLaws.{Wants, WantsBegin, WantsCoverRequests}
use Rattle.xds_node.specs.declared.node.concern.Concern.{Concern}
use Rattle.xds_node.proofs.Covers.{at-joined}

-- ---- what a list asks for

-- the star in a list
star_listed : (t : TypeName) (names : List (List ℕ)) → list_any (is_star t) names ≡ true → has_name names star_text ≡ true
star_listed t [] is = is
star_listed t (x ∷ xs) is =
    ⊎_elim (λ here. or_left (bytes_eq star_text x) _ (and_parts (row t).is_complete (bytes_eq star_text x) here).1) (λ later. or_right (bytes_eq star_text x) _ (star_listed t xs later))
    (or_cases (is_star t x) (list_any (is_star t) xs) is)

-- what passes a filter is in the list
kept_at : (b : Bool) (x : List ℕ) (xs ys : List (List ℕ)) (q : List ℕ) → (has_name ys q ≡ true → has_name xs q ≡ true) → has_name (if b then x ∷ ys else ys) q ≡ true → has_name (x ∷ xs) q ≡ true
kept_at true x xs ys q later is = ⊎_elim (λ here. or_left (bytes_eq q x) _ here) (λ there. or_right (bytes_eq q x) _ (later there)) (or_cases (bytes_eq q x) (has_name ys q) is)
kept_at false x xs ys q later is = or_right (bytes_eq q x) _ (later is)

kept_listed : (p : List ℕ → Bool) (names : List (List ℕ)) (q : List ℕ) → has_name (filter p names) q ≡ true → has_name names q ≡ true
kept_listed p [] q is = is
kept_listed p (x ∷ xs) q is = kept_at (p x) x xs (filter p xs) q (kept_listed p xs q) is

-- a list of the state of the world
listed_asks : (t : TypeName) (names : List (List ℕ)) (q : List ℕ) → reaches (listed t names) q ≡ true → lists_it names q ≡ true
listed_asks t names q is =
    ⊎_elim (λ starry. or_left _ _ (star_listed t names starry))
    (λ named. or_right (has_name names star_text) _ (kept_listed (λ text. not (is_star t text)) names q (sym (contains-from_texts (names_among t names) q) ∙ named)))
    (or_cases (list_any (is_star t) names) (set.contains (set.from_list (names_among t names)) q) is)

sotw_asks : (t : TypeName) (a : Asked) (names : List (List ℕ)) (q : List ℕ) → reaches (sotw_asked t a names).interest q ≡ true → (not (is_named names) || lists_it names q) ≡ true
sotw_asks t a names q is = asks_at (a.named || is_named names) refl is where
  asks_at : (b : Bool) → (a.named || is_named names) ≡ b → reaches (if b then listed t names else everything t) q ≡ true → (not (is_named names) || lists_it names q) ≡ true
  asks_at true named is = or_right (not (is_named names)) _ (listed_asks t names q is)
  asks_at false unnamed is = or_left _ _ (not_from_false (is_named names) (or_parts a.named (is_named names) unnamed).1)

-- what a request for changes leaves: what it subscribes, what was asked for before, or all, where it is the first and subscribes nothing
delta_asks : (t : TypeName) (a : Asked) (m : Mention) (q : List ℕ) → reaches (delta_asked t a m).interest q ≡ true
    → (lists_it m.subscribe q ≡ true) ⊎ ((reaches a.interest q ≡ true) ⊎ ((a.begun ≡ false) × (is_named m.subscribe ≡ false)))
delta_asks t a m q is =
    ⊎_elim
    (λ starry. star_at (has_name m.subscribe star_text) (has_name m.unsubscribe star_text) refl (and_parts (row t).is_complete _ starry).1)
    (λ named. ⊎_elim
    (λ now. inl (or_right (has_name m.subscribe star_text) _ (kept_listed (λ text. not (is_star t text)) m.subscribe q now)))
    (λ before. inr (inl (or_right a.interest.star _ (sym (has_name-items a.interest.names q) ∙ kept_listed (λ name. not (has_name m.unsubscribe name)) (set.items a.interest.names) q before))))
    (or_cases _ _ (sym (list_any-append (bytes_eq q) (names_among t m.subscribe) (filter (λ name. not (has_name m.unsubscribe name)) (set.items a.interest.names)))
    ∙ sym (contains-from_texts (names_after t m (set.items a.interest.names)) q) ∙ named)))
    (or_cases (delta_asked t a m).interest.star (set.contains (delta_asked t a m).interest.names q) is) where
      before_at : (b : Bool) → a.begun ≡ b → (if b then a.interest.star else not (is_named m.subscribe)) ≡ true
          → (lists_it m.subscribe q ≡ true) ⊎ ((reaches a.interest q ≡ true) ⊎ ((a.begun ≡ false) × (is_named m.subscribe ≡ false)))
      before_at true begun is = inr (inl (or_left a.interest.star _ is))
      before_at false unbegun is = inr (inr (unbegun, un (is_named m.subscribe) is)) where
        un : (b : Bool) → not b ≡ true → b ≡ false
        un true e = absurd (true≢false (sym e))
        un false e = refl

      star_at : (s u : Bool) → has_name m.subscribe star_text ≡ s → (if s then true else if u then false else (if a.begun then a.interest.star else not (is_named m.subscribe))) ≡ true
          → (lists_it m.subscribe q ≡ true) ⊎ ((reaches a.interest q ≡ true) ⊎ ((a.begun ≡ false) × (is_named m.subscribe ≡ false)))
      star_at true u subscribed is = inl (or_left _ _ subscribed)
      star_at false true none is = absurd (true≢false (sym is))
      star_at false false none is = before_at a.begun refl is

-- ---- the session that a request is for

-- what a request may have asked for of a name
abbrev Asks : TypeName → Asked → Message → List ℕ → Type 0
Asks t a m q = (names_it m q ≡ true) ⊎ ((reaches a.interest q ≡ true) ⊎ ((a.begun ≡ false) × (subscribes_nothing m ≡ true)))

-- of a request that is taken, and of one that is ignored
taken_or : (P : Asked → Type 0) (stale : Bool) (x k : Session) → (stale ≡ true → P k.asked) → (stale ≡ false → P x.asked) → P (if not stale then x else k).asked
taken_or P true x k ignored fresh = ignored refl
taken_or P false x k ignored fresh = fresh refl

-- the session once a request is taken
abbrev taken_by : TypeName → Session → Message → Session
taken_by t k (Sotw m) = sessions.taken StateOfTheWorld t k (record { nonce = m.response_nonce; rejects = is_some m.error_detail }) (sotw_names t k.asked m.resource_names)
taken_by t k (Delta m) = sessions.taken variants.Delta t k (answer_in m) (delta_names t k.asked (mention m) m.initial_resource_versions)

session_asks : (t : TypeName) (k : Session) (m : Message) (q : List ℕ) → reaches (session_after t k m).asked.interest q ≡ true → Asks t k.asked m q
session_asks t k (Sotw m) q =
    taken_or (λ a. reaches a.interest q ≡ true → Asks t k.asked (Sotw m) q) (is_stale k m.response_nonce) (taken_by t k (Sotw m)) k (λ stale is. inr (inl is))
    (λ fresh is. inl (sotw_asks t k.asked m.resource_names q is))
session_asks t k (Delta m) q =
    taken_or (λ a. reaches a.interest q ≡ true → Asks t k.asked (Delta m) q) (is_stale k m.response_nonce) (taken_by t k (Delta m)) k (λ stale is. inr (inl is))
    (λ fresh is.
    ⊎_elim (λ now. inl now) (λ other. ⊎_elim (λ before. inr (inl before)) (λ first. inr (inr (first.0, not_from_false (is_named m.resource_names_subscribe) first.1))) other)
    (delta_asks t k.asked (mention m) q is))

session_begun : (t : TypeName) (k : Session) (m : Message) → (session_after t k m).asked.begun ≡ true
session_begun t k (Sotw m) =
    taken_or (λ a. a.begun ≡ true) (is_stale k m.response_nonce) (taken_by t k (Sotw m)) k (λ stale. (and_parts k.asked.begun _ stale).0) (λ fresh. refl)
session_begun t k (Delta m) =
    taken_or (λ a. a.begun ≡ true) (is_stale k m.response_nonce) (taken_by t k (Delta m)) k (λ stale. (and_parts k.asked.begun _ stale).0) (λ fresh. refl)

-- ---- the sessions of a stream

-- a concern covers what the sessions of a stream asked for
record Begins (c : Concern) (ss : PerType Session) : Type 0 where
  names : (t : TypeName) (q : List ℕ) → reaches (at ss t).asked.interest q ≡ true → covers c t q ≡ true
  first : (t : TypeName) → (at ss t).asked.begun ≡ false → (at (set_of c.types) t ≡ false) ⊎ ((q : List ℕ) → covers c t q ≡ true)

nothing_reached : (cluster : List ℕ) (t : TypeName) (q : List ℕ) → reaches (at (each (unopened cluster)) t).asked.interest q ≡ true → ⊥
nothing_reached cluster t q is =
    let there : set.contains (set.empty {R = text_cmp}) q ≡ true = sym (ap (λ (k : Session). reaches k.asked.interest q) (at-each (unopened cluster) t)) ∙ is in
    both_ways _ (set.contains-empty text_cmp q) there

begins : (c : Concern) (s : Stream) (m : Message) → Wants c s → Begins c (sessions_for s m)
begins c s m wants = begins_at (is_some s.variant) refl where
  begins_at : (b : Bool) → is_some s.variant ≡ b → Begins c (if b then s.sessions else each (unopened (cluster_of m)))
  begins_at true decided = record { names = wants.names; first = λ t unbegun. wants.first t (ap (λ b. b && (at s.sessions t).asked.begun) decided ∙ unbegun) }
  begins_at false undecided = record {
    names = λ t q is. absurd (nothing_reached (cluster_of m) t q is);
    first = λ t unbegun. wants.first t (ap (λ b. b && (at s.sessions t).asked.begun) undecided);
  }

unmet : (p q : PerType Bool) → ((t : TypeName) → (at p t && at q t) ≡ false) → meets p q ≡ false
unmet p q none = or_from _ _ (or_from _ _ (or_from _ _ (none Cluster) (none Endpoint)) (none Listener)) (or_from _ _ (none Route) (none Secret))

only_unmet : (p : PerType Bool) (t : TypeName) → at p t ≡ false → meets p (only t) ≡ false
only_unmet p t none = unmet p (only t) (λ u. ⊎_elim
    (λ here. and_left (at p u) (at (only t) u) (ap (at p) here.0 ∙ none))
    (λ other. and_right (at p u) (at (only t) u) (at-with_at_other (each false) t true u other.0 ∙ at-each false u)) (same_type u t))

module _ (n : ℕ) (m : Message) (wants asked next : Concern) (of_event : IsConcernOf (events.Request n m) asked) (more : IsJoined wants asked next) where
  -- what was covered stays so
  stays : (t : TypeName) (q : List ℕ) → covers wants t q ≡ true → covers next t q ≡ true
  stays t q is = more.covered t q (or_left _ _ is)

  -- a type that the request doesn't name
  grown : (t : TypeName) → at (set_of asked.types) t ≡ false → (at (set_of wants.types) t ≡ false) ⊎ ((q : List ℕ) → covers wants t q ≡ true)
      → (at (set_of next.types) t ≡ false) ⊎ ((q : List ℕ) → covers next t q ≡ true)
  grown t unasked (inl none) = inl (ap (λ p. at p t) more.types ∙ at-joined (set_of wants.types) (set_of asked.types) t ∙ or_from _ _ none unasked)
  grown t unasked (inr all) = inr (λ q. stays t q (all q))

  module _ (ss : PerType Session) (b : Begins wants ss) where
    begins_untyped : type_of_url (url_of m) ≡ None → Begins next ss
    begins_untyped none = record {
      names = λ t q is. stays t q (b.names t q is);
      first = λ t unbegun. grown t (ap (λ p. at p t) (of_event.types ∙ ap asked_for none) ∙ at-each false t) (b.first t unbegun);
    }

    module _ (u : TypeName) (typed : type_of_url (url_of m) ≡ Some u) where
      asked_types : set_of asked.types ≡ only u
      asked_types = of_event.types ∙ ap asked_for typed

      asked_type : at (set_of asked.types) u ≡ true
      asked_type = ap (λ p. at p u) asked_types ∙ at-with_at (each false) u true

      -- what the request leaves reached of its type
      asked_for_it : (q : List ℕ) → Asks u (at ss u).asked m q → covers next u q ≡ true
      asked_for_it q (inl named) =
          more.covered u q (or_right (covers wants u q) (covers asked u q) (of_event.covered u q (and_from _ _ (ap (λ o. at (asked_for o) u) typed ∙ at-with_at (each false) u true) named)))
      asked_for_it q (inr (inl before)) = stays u q (b.names u q before)
      asked_for_it q (inr (inr first)) =
          ⊎_elim
          (λ unknown. more.first (ap (meets (set_of wants.types)) asked_types ∙ only_unmet (set_of wants.types) u unknown) (of_event.unnamed first.1) u q asked_type)
          (λ all. stays u q (all q)) (b.first u first.0)

      after : Session
      after = session_after u (at ss u) m

      begins_typed : Begins next (with_at ss u (session_after u (at ss u) m))
      begins_typed = record {
        names = λ t q is. ⊎_elim
            (λ here. subst (λ x. covers next x q ≡ true) (sym here.0)
            (asked_for_it q (session_asks u (at ss u) m q (sym (ap (λ (k : Session). reaches k.asked.interest q) (ap (at (with_at ss u (session_after u (at ss u) m))) here.0 ∙ at-with_at ss u (session_after u (at ss u) m))) ∙ is))))
            (λ other. stays t q (b.names t q (sym (ap (λ (k : Session). reaches k.asked.interest q) (at-with_at_other ss u (session_after u (at ss u) m) t other.0)) ∙ is))) (same_type t u);
        first = λ t unbegun. ⊎_elim
            (λ here. absurd (both_ways _ (sym (ap (λ (k : Session). k.asked.begun) (ap (at (with_at ss u (session_after u (at ss u) m))) here.0 ∙ at-with_at ss u (session_after u (at ss u) m))) ∙ unbegun)
            (session_begun u (at ss u) m)))
            (λ other. grown t (ap (λ p. at p t) asked_types ∙ at-with_at_other (each false) u true t other.0 ∙ at-each false t)
            (b.first t (sym (ap (λ (k : Session). k.asked.begun) (at-with_at_other ss u (session_after u (at ss u) m) t other.0)) ∙ unbegun))) (same_type t u);
      }

    begins_after : (o : Option TypeName) → type_of_url (url_of m) ≡ o → Begins next (answered_by ss m o).1
    begins_after None none = begins_untyped none
    begins_after (Some u) typed = begins_typed u typed

-- ---- a request

allowed : {X : Type 0} (b : Bool) (r : Result X Refusal) (y : X) → (if b then Err WrongVariant else r) ≡ Ok y → r ≡ Ok y
allowed true r y is = absurd cc
allowed false r y is = is

request_wants : (n : ℕ) (m : Message) (s : Stream) (p : Outcome × Stream) (wants asked next : Concern) → requested s m ≡ Ok p → IsConcernOf (events.Request n m) asked → IsJoined wants asked next
    → Wants wants s → Wants next p.1
request_wants n m s p wants asked next is of_event more before =
    let made = done_with (λ x. (x.0, record { variant = Some (variant_of m); count = s.count; sessions = x.1 })) (answered (sessions_for s m) m) p (allowed (is_foreign s m) _ p is) in
    let which = unless_once (length (url_of m) == 0) BadMessage (answered_by (sessions_for s m) m (type_of_url (url_of m))) made.0 made.1 in
    let b = begins_after n m wants asked next of_event more (sessions_for s m) (begins wants s m before) (type_of_url (url_of m)) refl in
    subst (λ (k : Stream). Wants next k)
    (sym (ap (λ x. x.1) made.2 ∙ ap (λ (x : Outcome × PerType Session). record { variant = Some (variant_of m); count = s.count; sessions = x.1 }) which))
    (record { names = b.names; first = b.first })

-- ---- other events

-- what was asked for is the same
record SameAsked (s l : Stream) : Type 0 where
  variant : l.variant ≡ s.variant
  asked : (t : TypeName) → (at l.sessions t).asked ≡ (at s.sessions t).asked

wants_same : (c : Concern) (s l : Stream) → SameAsked s l → Wants c s → Wants c l
wants_same c s l same wants = record {
  names = λ t q is. wants.names t q (sym (ap (λ (a : Asked). reaches a.interest q) (same.asked t)) ∙ is);
  first = λ t not. wants.first t (sym (λ i. is_some (same.variant i) && (same.asked t i).begun) ∙ not);
}

same_itself : (s : Stream) → SameAsked s s
same_itself s = record { variant = refl; asked = λ t. refl }

same_sent : (s : Stream) (t : TypeName) (o : Offer) → SameAsked s (sent s t o)
same_sent s t o = record {
  variant = refl;
  asked = λ u. ⊎_elim
      (λ here. ap (λ (k : Session). k.asked) (ap (at (sent s t o).sessions) here.0 ∙ at-with_at s.sessions t (sessions.send (at s.sessions t) o (s.count + 1)))
      ∙ ap (λ x. (at s.sessions x).asked) (sym here.0))
      (λ other. ap (λ (k : Session). k.asked) (at-with_at_other s.sessions t (sessions.send (at s.sessions t) o (s.count + 1)) u other.0)) (same_type u t);
}

answered_same : (s : Stream) (q p : Option Draft × Stream) → p ≡ q → SameAsked s q.1 → SameAsked s p.1
answered_same s q p is same = subst (λ (x : Option Draft × Stream). SameAsked s x.1) (sym is) same

polled_same : (replica : ℕ) (store : Store) (s : Stream) (t : TypeName) (p : Option Draft × Stream) → polled replica store s t ≡ Ok p → SameAsked s p.1
polled_same replica store s t p is = polled_at (to_send store s t) is where
  polled_at : (o : Option Offer) → option_map_or (responding replica store s t) o (Ok (None, s)) ≡ Ok p → SameAsked s p.1
  polled_at None is = answered_same s (None, s) p (ok_same (None, s) p is) (same_itself s)
  polled_at (Some o) is = answered_same s _ p (unless_once (s.count == max_counter) NonceSpent _ p is) (same_sent s t o)

first_same : (replica : ℕ) (store : Store) (s : Stream) (ts : List TypeName) (p : Option Draft × Stream) → polled_first replica store s ts ≡ Ok p → SameAsked s p.1
first_same replica store s ts p is = first_at (first_due store s ts) is where
  first_at : (o : Option TypeName) → option_map_or (polled replica store s) o (Ok (None, s)) ≡ Ok p → SameAsked s p.1
  first_at None is = answered_same s (None, s) p (ok_same (None, s) p is) (same_itself s)
  first_at (Some t) is = polled_same replica store s t p is

-- ---- steps

some_same : {X : Type 0} (x y : X) → Some x ≡ Some y → y ≡ x
some_same x y is = cc

-- the stream of an event that changes one
module _ {X : Type 0} (c later : Core) (n : ℕ) (s l : Stream) (reply : Reply) (f : X → Reply) (g : Stream → Result (X × Stream) Refusal) where
  stepped : on_stream c n (λ k. if_done (λ p. (f p.0, with_stream c n p.1)) (g k)) ≡ Ok (reply, later) → finmap.get c.streams n ≡ Some s → finmap.get later.streams n ≡ Some l
      → (p : X × Stream) × (g s ≡ Ok p) × (l ≡ p.1)
  stepped is there now =
      let made = done_with (λ p. (f p.0, with_stream c n p.1)) (g s) (reply, later)
      (sym (ap (λ o. option_map_or (λ k. if_done (λ p. (f p.0, with_stream c n p.1)) (g k)) o (Err NoStream)) there) ∙ is) in
      let put = ap (λ x. finmap.get x.1.streams n) made.2 in
      (made.0, made.1, some_same made.0.1 l (sym (in_place (finmap.get (finmap.insert c.streams n made.0.1) n) (get-inserted nat_cmp_total nat_cmp-IsAntisymmetric c.streams n made.0.1 n)) ∙ sym put ∙ now)) where
        in_place : {Y : Type 0} {y z : Option Y} (o : Option Y) → ((n ≡ n) × (o ≡ y)) ⊎ ((n ≢ n) × (o ≡ z)) → o ≡ y
        in_place o (inl here) = here.1
        in_place o (inr there) = absurd (there.0 refl)

-- an event that isn't one of the stream's
kept : (c later : Core) (e : Event) (reply : Reply) (n : ℕ) (s l : Stream) (wants next : Concern) → step c e ≡ Ok (reply, later) → stream_changed c e ≢ Some n
    → finmap.get c.streams n ≡ Some s → finmap.get later.streams n ≡ Some l → next ≡ wants → Wants wants s → Wants next l
kept c later e reply n s l wants next is apart there now same before =
    let still = ap (λ (k : Core). finmap.get k.streams n) (sym (ap (left_by c) is)) ∙ streams_stand_apart c e n apart ∙ there in
    subst₂ Wants (sym same) (some_same l s (sym now ∙ still)) before

other_apart : (k n : ℕ) → k ≢ n → Some k ≢ Some n
other_apart k n other e = other (some_same n k (sym e))

-- rule: wake-ups
pub wants_cover_requests : WantsCoverRequests
wants_cover_requests c later events.Open reply n s l wants next within is there now same before =
    kept c later events.Open reply n s l wants next is (other_apart (c.opened + 1) n (λ e. omega (arith, e, within))) there now same before
wants_cover_requests c later (events.Request k m) reply n s l wants next within is there now so before =
    ⊎_elim
    (λ here.
    let own = so.0 here in
    let made = stepped c later n s l reply events.Answered (λ x. requested x m) (subst (λ x. step c (events.Request x m) ≡ Ok (reply, later)) here is) there now in
    subst (λ (x : Stream). Wants next x) (sym made.2) (request_wants k m s made.0 wants own.0 next made.1 own.1 own.2 before))
    (λ other. kept c later (events.Request k m) reply n s l wants next is (other_apart k n other) there now (so.1 other) before) (cases_eq k n)
wants_cover_requests c later (events.Poll k which) reply n s l wants next within is there now same before =
    ⊎_elim
    (λ here.
    let made = stepped c later n s l reply events.Polled (λ x. polled_first c.replica c.store x (looked_at which)) (subst (λ x. step c (events.Poll x which) ≡ Ok (reply, later)) here is) there now in
    subst₂ Wants (sym same) (sym made.2) (wants_same wants s made.0.1 (first_same c.replica c.store s (looked_at which) made.0 made.1) before))
    (λ other. kept c later (events.Poll k which) reply n s l wants next is (other_apart k n other) there now same before) (cases_eq k n)
wants_cover_requests c later (events.Owes k which) reply n s l wants next within is there now same before =
    kept c later (events.Owes k which) reply n s l wants next is (none-some n) there now same before
wants_cover_requests c later (events.Close k) reply n s l wants next within is there now same before =
    ⊎_elim
    (λ here. absurd (gone here))
    (λ other. kept c later (events.Close k) reply n s l wants next is (other_apart k n other) there now same before) (cases_eq k n) where
      left : finmap.get c.streams k ≡ Some s → later ≡ record c { streams = finmap.remove c.streams k }
      left at_k = ap (λ (x : Reply × Core). x.1) (ok_same _ (reply, later) (sym (ap (λ o. option_map_or (λ x. Ok (events.Closed, record c { streams = finmap.remove c.streams k })) o (Err NoStream)) at_k) ∙ is))

      removed : (o : Option Stream) → ((k ≡ n) × (o ≡ None)) ⊎ ((k ≢ n) × (o ≡ finmap.get c.streams n)) → k ≡ n → o ≡ None
      removed o (inl here) e = here.1
      removed o (inr other) e = absurd (other.0 e)

      gone : k ≡ n → ⊥
      gone here =
          let none = removed (finmap.get (finmap.remove c.streams k) n) (get-removed nat_cmp_total nat_cmp-IsAntisymmetric c.streams k n) here in
          none-some l (sym (sym now ∙ ap (λ (x : Core). finmap.get x.streams n) (left (ap (finmap.get c.streams) here ∙ there)) ∙ none))
wants_cover_requests c later (events.Put t r groups) reply n s l wants next within is there now same before =
    kept c later (events.Put t r groups) reply n s l wants next is (none-some n) there now same before
wants_cover_requests c later (events.Delete t name) reply n s l wants next within is there now same before =
    kept c later (events.Delete t name) reply n s l wants next is (none-some n) there now same before
wants_cover_requests c later (events.Merge b) reply n s l wants next within is there now same before = kept c later (events.Merge b) reply n s l wants next is (none-some n) there now same before
wants_cover_requests c later events.Snapshot reply n s l wants next within is there now same before = kept c later events.Snapshot reply n s l wants next is (none-some n) there now same before
wants_cover_requests c later (events.Rest t names version cluster) reply n s l wants next within is there now same before =
    kept c later (events.Rest t names version cluster) reply n s l wants next is (none-some n) there now same before
wants_cover_requests c later (events.Since marks) reply n s l wants next within is there now same before =
    kept c later (events.Since marks) reply n s l wants next is (none-some n) there now same before

-- rule: wake-ups
pub wants_begin : WantsBegin
wants_begin c = (
  λ none. record {
    names = λ t q is. absurd (nothing_reached [] t q is);
    first = λ t not. inl (ap (λ p. at p t) none ∙ at-each false t);
  },
  λ all s. record { names = λ t q is. all t q; first = λ t not. inr (all t) },
)
