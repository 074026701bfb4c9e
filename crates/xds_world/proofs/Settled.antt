-- A client that its replica owes nothing shows what is live there of what it wants.
use Rattle.std.proofs.Common.{◌≡◌, inl, inr, ℕ, List, [], ◌∷◌, Bool, true, false, ◌&&◌, not, Option, Some, None, refl, sym, ap, subst, ◌∙◌}
use Rattle.std.specs.Prelude.{bytes_eq, if◌then◌else◌, is_some, option_map, Contains}
use Rattle.std.specs.Option.{option_and_then, option_map_or}
use Rattle.std.specs.List.{list_any, filter}
use Rattle.std.specs.FinMap as finmap
use Rattle.std.proofs.lemmas.Bool.{or_parts}
use Rattle.xds_resource.specs.declared.types.TypeName.{TypeName}
use Rattle.xds_resource.specs.Types.{is_same_type}
use Rattle.xds_resource.specs.PerType.{at}
use Rattle.xds_resource.specs.Stamps.{IsStamp}
use Rattle.xds_resource.specs.Writes.{StampedWrite, version_of}
use Rattle.xds_resource.proofs.VersionTexts.{version_text_injective}
use Rattle.xds_resource.proofs.TypesApart.{at-each}
use Rattle.xds_resource.proofs.NameMaps.{bytes_eq_tells}
use Rattle.xds_resource.proofs.BoolsAndLists.{both_false}
use Rattle.xds_interest.specs.Interests.{Selection, reaches, covers}
use Rattle.xds_interest.proofs.Reaching.{covered_is_reached}
use Rattle.xds_interest.specs.Asked.{Asked}
use Rattle.xds_catalogue.specs.Holdings.{Entries}
use Rattle.xds_message.specs.declared.draft.Draft.{Draft}
use Rattle.xds_message.specs.DraftTexts.{kind_of}
use Rattle.xds_ledger.specs.declared.variant.VariantName.{VariantName}
use Rattle.xds_ledger.specs.declared.variant.VariantName.TheVariants.{StateOfTheWorld, Delta}
use Rattle.xds_ledger.specs.declared.entry.Entry.{Entry}
use Rattle.xds_ledger.specs.declared.entry.Entry.TheVariants.{Told, Unsure}
use Rattle.xds_ledger.specs.declared.entry.Due.{Due}
use Rattle.xds_ledger.specs.declared.entry.Due.TheVariants.{Stated, Removed}
use Rattle.xds_ledger.specs.Variants.{is_told, is_whole, tells_removals}
use Rattle.xds_ledger.specs.Owed.{version_shown, present, owed, something_owed}
use Rattle.xds_ledger.specs.Ledgers as ledgers
use Rattle.xds_ledger.specs.Ledgers.{is_due}
use Rattle.xds_ledger.specs.Sessions as sessions
use Rattle.xds_ledger.specs.Sessions.{Session, unopened}
use Rattle.xds_ledger.proofs.ByName.{nothing_owed}
use Rattle.xds_core.specs.Stores.{Store}
use Rattle.xds_core.specs.Streams.{Stream, owes_of}
use Rattle.xds_cache.specs.Shelves.{Holding, Shelf, interest, is_wanted}
use Rattle.xds_cache.proofs.Interests.{wants_what_is_reached}
use Rattle.xds_world.specs.Knows.{TypedWrite}
use Rattle.xds_cache.specs.Clients.{Client, shelf}
use Rattle.xds_world.specs.Worlds.{Link, under_way}
use Rattle.xds_world.specs.Claims.{holding_of, shown_of, asks_for, is_quiet}
use Rattle.xds_world.proofs.Folding.{folded}
use Rattle.xds_world.proofs.Replicas.{some_is, if_both}
use Rattle.xds_world.proofs.ByOneName.{IsHeld}
use Rattle.xds_world.proofs.Lanes.{IsAt, IsMade, Asks, IsWithin, Abreast}
use Rattle.xds_world.proofs.LaneSteps.{nothing_wanted}
use Rattle.xds_world.proofs.Delivering.{AllKnown, shown_in}
use Rattle.xds_world.proofs.Queues.{lane_down, Speaks, Linked}

-- ---- stamps

-- a stamp names one write
abbrev pub IsUnique : List TypedWrite → Type 0
IsUnique all = (x y : TypedWrite) → Contains all x → Contains all y → x.0 ≡ y.0 → x.1.counter ≡ y.1.counter → x.1.writer ≡ y.1.writer → x ≡ y

abbrev pub AllStamped : List TypedWrite → Type 0
AllStamped all = (x : TypedWrite) → Contains all x → IsStamp x.1.counter x.1.writer

held_version_is : (w : StampedWrite) (h : Holding) (b : Option (List ℕ)) → option_map (λ body. record { version = version_of w; body = body }) b ≡ Some h → h.version ≡ version_of w
held_version_is w h None is = absurd cc
held_version_is w h (Some body) is = ap (λ x. x.version) (sym (some_is (record { version = version_of w; body = body }) h is))

-- two writes of a version are one
pub one_write : (all : List TypedWrite) (t : TypeName) (w v : StampedWrite) → IsUnique all → AllStamped all → Contains all (t, w) → Contains all (t, v) → version_of w ≡ version_of v → w ≡ v
one_write all t w v unique stamped made_w made_v same =
    let parts = version_text_injective w.counter w.writer v.counter v.writer (stamped (t, w) made_w) (stamped (t, v) made_v) same in
    ap (λ (x : TypedWrite). x.1) (unique (t, w) (t, v) made_w made_v refl parts.0 parts.1)

-- ---- one name

-- what is held is the same: in the state of the world its body alone
abbrev pub IsSame : VariantName → Option Holding → Option Holding → Type 0
IsSame StateOfTheWorld x y = option_map (λ h. h.body) x ≡ option_map (λ h. h.body) y
IsSame Delta x y = x ≡ y

none_same : (v : VariantName) (x : Option Holding) → x ≡ None → IsSame v x None
none_same StateOfTheWorld x none = ap (option_map (λ h. h.body)) none
none_same Delta x none = none

-- what is present is believed told at its version
told_where_present : (tells : Due → Bool) (b : Option Entry) (v : List ℕ) → ((u : List ℕ) → tells (Stated u) ≡ true) → option_map_or tells (owed b (Some v)) false ≡ false → b ≡ Some (Told v)
told_where_present tells None v states is = let never : true ≡ false = sym (states v) ∙ is in absurd cc
told_where_present tells (Some Unsure) v states is = let never : true ≡ false = sym (states v) ∙ is in absurd cc
told_where_present tells (Some (Told u)) v states is = by_same (bytes_eq u v) refl is
  where
    by_same : (same : Bool) → bytes_eq u v ≡ same → option_map_or tells (if same then None else Some (Stated v)) false ≡ false → ◌≡◌ {A = Option Entry} (Some (Told u)) (Some (Told v))
    by_same true e h = ap (λ x. Some (Told x)) (bytes_eq_tells u v e)
    by_same false e h = let never : true ≡ false = sym (states v) ∙ h in absurd cc

-- and what isn't, where a removal is told, isn't believed held
none_where_absent : (tells : Due → Bool) (b : Option Entry) → tells Removed ≡ true → option_map_or tells (owed b None) false ≡ false → b ≡ None
none_where_absent tells None removes is = refl
none_where_absent tells (Some (Told u)) removes is = let never : true ≡ false = sym removes ∙ is in absurd cc
none_where_absent tells (Some Unsure) removes is = let never : true ≡ false = sym removes ∙ is in absurd cc

bodies_of : (version : List ℕ) (b : Option (List ℕ)) → option_map (λ (h : Holding). h.body) (option_map (λ body. record { version = version; body = body }) b) ≡ b
bodies_of version None = refl
bodies_of version (Some body) = refl

-- what is held at the version of a write is what that write puts
held_is : (v : VariantName) (all : List TypedWrite) (t : TypeName) (name : List ℕ) (w : StampedWrite) (held : Option Holding) → IsUnique all → AllStamped all → Contains all (t, w) → ((h : Holding) → held ≡ Some h → IsMade v all t name h) → IsHeld (IsAt v all t name) (version_of w) held
    → IsSame v held (holding_of w)
held_is StateOfTheWorld all t name w held unique stamped made origin is =
    let same : w ≡ is.2.0 = one_write all t w is.2.0 unique stamped made is.2.1 (sym is.2.3) in
    ap (option_map (λ h. h.body)) is.1 ∙ sym is.2.4 ∙ ap (λ (x : StampedWrite). x.body) (sym same) ∙ sym (bodies_of (version_of w) w.body)
held_is Delta all t name w held unique stamped made origin is =
    let from = origin is.0 is.1 in
    let same : w ≡ from.0 = one_write all t w from.0 unique stamped made from.1 (sym is.2 ∙ held_version_is from.0 is.0 from.0.body from.3) in is.1 ∙ sym from.3 ∙ ap holding_of (sym same)

-- what is known where nothing is owed
pub record Nothing (v : VariantName) (cluster : List ℕ) (all : List TypedWrite) (t : TypeName) (s : Session) (f : Shelf) (m : Entries) : Type 0 where
  pub lane : Abreast v cluster all t s None f
  pub unique : IsUnique all
  pub stamped : AllStamped all
  pub known : AllKnown all t m
  pub not_owed : (name : List ℕ) → option_map_or (is_told v t) (owed (finmap.get s.account.beliefs name) (present s.asked.interest m name)) false ≡ false
  pub accepted : is_whole v t ≡ true → s.account.accepted ≡ true

-- at which version a write that is covered, or isn't, is present
present_of : (s : Selection) (m : Entries) (name : List ℕ) (w : StampedWrite) (covered : Bool) (b : Option (List ℕ)) → finmap.get m name ≡ Some w → covers s name w.groups ≡ covered → w.body ≡ b
    → present s m name ≡ (if covered then (if is_some b then Some (version_of w) else None) else None)
present_of s m name w covered b found covers_it body = ap (option_and_then (version_shown s name)) found ∙ (λ i. if covers_it i then (if is_some (body i) then Some (version_of w) else None) else None)

module _ (v : VariantName) (cluster : List ℕ) (all : List TypedWrite) (t : TypeName) (s : Session) (f : Shelf) (m : Entries) (is : Nothing v cluster all t s f m) (name : List ℕ) where
  -- a name that is covered and live
  live_shown : (w : StampedWrite) (x : List ℕ) → finmap.get m name ≡ Some w → covers s.asked.interest name w.groups ≡ true → w.body ≡ Some x → IsSame v (finmap.get f.cache name) (holding_of w)
  live_shown w x found covered body =
      let here : present s.asked.interest m name ≡ Some (version_of w) = present_of s.asked.interest m name w true (Some x) found covered body in
      let told = told_where_present (is_told v t) (finmap.get s.account.beliefs name) (version_of w) (λ u. refl) (ap (λ p. option_map_or (is_told v t) (owed (finmap.get s.account.beliefs name) p) false) (sym here) ∙ is.not_owed name) in
      held_is v all t name w (finmap.get f.cache name) is.unique is.stamped (is.known name w found).made (is.lane.made name) (is.lane.told name (version_of w) told)

  -- a name that isn't present, where a removal is told
  absent_shown : tells_removals v t ≡ true → present s.asked.interest m name ≡ None → finmap.get f.cache name ≡ None
  absent_shown tells here =
      is.lane.none name is.accepted
      (none_where_absent (is_told v t) (finmap.get s.account.beliefs name) tells (ap (λ p. option_map_or (is_told v t) (owed (finmap.get s.account.beliefs name) p) false) (sym here) ∙ is.not_owed name))

  exact_write : (w : StampedWrite) (covered : Bool) (b : Option (List ℕ)) → tells_removals v t ≡ true → finmap.get m name ≡ Some w → covers s.asked.interest name w.groups ≡ covered → w.body ≡ b → IsSame v (finmap.get f.cache name) (if covered then holding_of w else None)
  exact_write w false b tells found covered body = none_same v (finmap.get f.cache name) (absent_shown tells (present_of s.asked.interest m name w false b found covered body))
  exact_write w true None tells found covered body =
      subst (IsSame v (finmap.get f.cache name)) (ap (option_map (λ x. record { version = version_of w; body = x })) (sym body)) (none_same v (finmap.get f.cache name) (absent_shown tells (present_of s.asked.interest m name w true None found covered body)))
  exact_write w true (Some x) tells found covered body = live_shown w x found covered body

  exact_by : (o : Option StampedWrite) → tells_removals v t ≡ true → finmap.get m name ≡ o → IsSame v (finmap.get f.cache name) (option_and_then (shown_of s.asked.interest name) o)
  exact_by None tells found = none_same v (finmap.get f.cache name) (absent_shown tells (ap (option_and_then (version_shown s.asked.interest name)) found))
  exact_by (Some w) tells found = exact_write w (covers s.asked.interest name w.groups) w.body tells found refl refl

  agrees_write : (w : StampedWrite) (b : Option (List ℕ)) (h : Holding) → finmap.get m name ≡ Some w → covers s.asked.interest name w.groups ≡ true → w.body ≡ b → holding_of w ≡ Some h → IsSame v (finmap.get f.cache name) (Some h)
  agrees_write w None h found covered body shown = let never : None ≡ Some h = sym (ap (option_map (λ y. record { version = version_of w; body = y })) body) ∙ shown in absurd cc
  agrees_write w (Some x) h found covered body shown = subst (IsSame v (finmap.get f.cache name)) shown (live_shown w x found covered body)

  agrees_by : (h : Holding) (o : Option StampedWrite) → finmap.get m name ≡ o → option_and_then (shown_of s.asked.interest name) o ≡ Some h → IsSame v (finmap.get f.cache name) (Some h)
  agrees_by h None found shown = absurd cc
  agrees_by h (Some w) found shown = let parts = if_both (covers s.asked.interest name w.groups) (holding_of w) h shown in agrees_write w w.body h found parts.0 refl parts.1

-- ---- a lane

-- what isn't reached isn't shown
uncovered : (s : Selection) (name : List ℕ) (w : StampedWrite) (covered : Bool) → covers s name w.groups ≡ covered → reaches s name ≡ false → (if covered then holding_of w else None) ≡ None
uncovered s name w true is unreached = let never : true ≡ false = sym (covered_is_reached s name w.groups is) ∙ unreached in absurd cc
uncovered s name w false is unreached = refl

pub none_shown : (s : Selection) (name : List ℕ) (o : Option StampedWrite) → reaches s name ≡ false → option_and_then (shown_of s name) o ≡ None
none_shown s name None unreached = refl
none_shown s name (Some w) unreached = uncovered s name w (covers s name w.groups) refl unreached

-- a session that has begun and owes nothing
pub owes_none : (v : VariantName) (t : TypeName) (s : Session) (m : Entries) → s.asked.begun ≡ true → (s.asked.begun ≡ true → sessions.owes v t s m ≡ false)
    → (something_owed v t s.asked.interest m s.account.beliefs ≡ false) × ((is_whole v t && not s.account.accepted) ≡ false)
owes_none v t s m begun owes =
    let owed_nothing : ledgers.owes v t s.asked.interest m s.account ≡ false = sym (ap (λ b. b && ledgers.owes v t s.asked.interest m s.account) begun) ∙ owes begun in
    or_parts (something_owed v t s.asked.interest m s.account.beliefs) (is_whole v t && not s.account.accepted) (or_parts (is_some s.account.sent) (is_due v t s.asked.interest m s.account) owed_nothing).1

-- what a client shows of a type: exactly what is live where removals are told, and else what is live of what is
pub record Shows (v : VariantName) (cluster : List ℕ) (t : TypeName) (f : Shelf) (m : Entries) : Type 0 where
  pub exact : (name : List ℕ) → tells_removals v t ≡ true → IsSame v (finmap.get f.cache name) (shown_in (interest t cluster f.wants) m name)
  pub agrees : (name : List ℕ) (h : Holding) → shown_in (interest t cluster f.wants) m name ≡ Some h → IsSame v (finmap.get f.cache name) (Some h)
  pub within : IsWithin t f

accepted_if : (whole accepted : Bool) → (whole && not accepted) ≡ false → whole ≡ true → accepted ≡ true
accepted_if true true is whole = refl
accepted_if true false is whole = absurd cc
accepted_if false accepted is whole = absurd cc

shows_lane : (v : VariantName) (cluster : List ℕ) (all : List TypedWrite) (t : TypeName) (s : Session) (f : Shelf) (m : Entries) → Asks v cluster t s f → Abreast v cluster all t s None f → IsUnique all → AllStamped all → AllKnown all t m
    → (s.asked.begun ≡ true → sessions.owes v t s m ≡ false) → Shows v cluster t f m
shows_lane v cluster all t s f m (inr never) lane unique stamped known owes = record {
  exact = λ name tells. subst (IsSame v (finmap.get f.cache name)) (sym (nothing_shown name)) (none_same v (finmap.get f.cache name) (lane.within name (unwanted name)));
  agrees = λ name h shown. let nothing : None ≡ Some h = sym (nothing_shown name) ∙ shown in absurd cc;
  within = lane.within;
}
  where
    unwanted : (name : List ℕ) → is_wanted t f.wants name ≡ false
    unwanted name = nothing_wanted t f.wants name never.2

    nothing_shown : (name : List ℕ) → shown_in (interest t cluster f.wants) m name ≡ None
    nothing_shown name = none_shown (interest t cluster f.wants) name (finmap.get m name) (wants_what_is_reached t cluster f.wants name ∙ unwanted name)
shows_lane v cluster all t s f m (inl asked) lane unique stamped known owes =
    let same : s.asked.interest ≡ interest t cluster f.wants = ap (λ (a : Asked). a.interest) asked.1 in
    let parts = owes_none v t s m (ap (λ (a : Asked). a.begun) asked.1) owes in
    let nothing : Nothing v cluster all t s f m = record {
      lane = lane;
      unique = unique;
      stamped = stamped;
      known = known;
      not_owed = λ name. nothing_owed v t s.asked.interest m s.account.beliefs name parts.0;
      accepted = accepted_if (is_whole v t) s.account.accepted parts.1;
    } in
    record {
      exact = λ name tells. subst (λ k. IsSame v (finmap.get f.cache name) (shown_in k m name)) same (exact_by v cluster all t s f m nothing name (finmap.get m name) tells refl);
      agrees = λ name h shown. agrees_by v cluster all t s f m nothing name h (finmap.get m name) refl (ap (λ k. shown_in k m name) same ∙ shown);
      within = lane.within;
    }

-- ---- a link

none_filtered : {X : Type 0} (p : X → Bool) (xs : List X) → list_any p xs ≡ false → filter p xs ≡ []
none_filtered p [] none = refl
none_filtered p (x ∷ xs) none = let parts = or_parts (p x) (list_any p xs) none in ap (λ b. if b then x ∷ filter p xs else filter p xs) parts.0 ∙ none_filtered p xs parts.1

pub none_down : (t : TypeName) (ds : List Draft) → list_any (λ d. is_same_type (kind_of d) t) ds ≡ false → lane_down t ds ≡ []
none_down t ds none = none_filtered (λ d. is_same_type (kind_of d) t) ds none

none_listed : (down : Option Draft) → [] ≡ under_way down → down ≡ None
none_listed None is = refl
none_listed (Some d) is = absurd cc

-- where nothing of the type is under way, the session is as it is
pub quiet_abreast : (v : VariantName) (all : List TypedWrite) (t : TypeName) (c : Client) (l : Link) (x : Stream) → Linked v all c l x → is_quiet t l ≡ true → Abreast v c.cluster all t (at x.sessions t) None (shelf c t)
quiet_abreast v all t c l x linked quiet =
    let parts = both_false (list_any (asks_for t) l.up) (list_any (λ d. is_same_type (kind_of d) t) l.down) quiet in
    let lane = linked.lanes t in
    let down : lane.down ≡ None = none_listed lane.down (sym (none_down t l.down parts.1) ∙ lane.downs_are) in
    subst (λ d. Abreast v c.cluster all t (at x.sessions t) d (shelf c t)) down (subst (λ ms. Abreast v c.cluster all t (folded t (at x.sessions t) ms) lane.down (shelf c t)) (none_filtered (asks_for t) l.up parts.0) lane.abreast)

-- a stream that owes nothing of a type
pub owed_by : (v : VariantName) (cluster : List ℕ) (x : Stream) (store : Store) (t : TypeName) → Speaks v cluster x → owes_of store x t ≡ false → (at x.sessions t).asked.begun ≡ true → sessions.owes v t (at x.sessions t) (at store t).entries ≡ false
owed_by v cluster x store t (inl fresh) nothing begun = let never : false ≡ true = ap (λ (s : Session). s.asked.begun) (sym (ap (λ p. at p t) fresh.1 ∙ at-each (unopened cluster) t)) ∙ begun in absurd cc
owed_by v cluster x store t (inr is) nothing begun = ap (λ o. option_map_or (λ k. sessions.owes k t (at x.sessions t) (at store t).entries) o false) (sym is) ∙ nothing

-- what a client shows of a type, where nothing of it is under way on its link and its replica owes it nothing
pub link_shows : (v : VariantName) (all : List TypedWrite) (t : TypeName) (c : Client) (l : Link) (x : Stream) (store : Store) → Linked v all c l x → IsUnique all → AllStamped all → AllKnown all t (at store t).entries → is_quiet t l ≡ true → owes_of store x t ≡ false
    → Shows v c.cluster t (shelf c t) (at store t).entries
link_shows v all t c l x store linked unique stamped known quiet nothing =
    let abreast = quiet_abreast v all t c l x linked quiet in
    shows_lane v c.cluster all t (at x.sessions t) (shelf c t) (at store t).entries abreast.asks abreast unique stamped known (owed_by v c.cluster x store t linked.variant nothing)
