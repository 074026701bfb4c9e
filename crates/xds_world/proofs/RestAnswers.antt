-- What the answer to a poll says: all that the client is to show, and nothing else.
use Rattle.std.proofs.Common.{◌≡◌, ℕ, List, [], ◌∷◌, map, Bool, true, false, cond, ◌&&◌, ◌||◌, Option, Some, None, refl, sym, ap, subst, ◌∙◌}
use Rattle.std.specs.Prelude.{bytes_eq, if◌then◌else◌, is_some, option_map}
use Rattle.std.specs.Option.{option_or, option_and_then}
use Rattle.std.specs.List.{filter}
use Rattle.std.specs.FinMap as finmap
use Rattle.xds_resource.specs.declared.types.TypeName.{TypeName}
use Rattle.xds_resource.specs.Types.{row}
use Rattle.xds_resource.specs.Resources.{value_of}
use Rattle.xds_resource.specs.Writes.{StampedWrite, version_of, text_cmp}
use Rattle.xds_resource.proofs.NameMaps.{bytes_eq_tells}
use Rattle.xds_resource.proofs.MadeMaps.{each_found}
use Rattle.xds_interest.specs.Interests.{Selection, in_cluster, covers}
use Rattle.xds_interest.specs.SotW.{listed as listed_interest, unnamed}
use Rattle.xds_catalogue.specs.Holdings.{Holdings, Entries}
use Rattle.xds_catalogue.specs.Content.{is_live, is_shown, content}
use Rattle.xds_ledger.specs.Texts.{interest_version}
use Rattle.xds_sessions.specs.Rest.{asked_once, whole, is_present, unless_present}
use Rattle.xds_message.specs.declared.draft.Draft.TheVariants as drafts
use Rattle.xds_message.specs.Drafts.{Drafted, message_of}
use Rattle.xds_cache.specs.Shelves.{Wants, Holding, Shelf, texts, interest, is_wanted, wants_some}
use Rattle.xds_cache.specs.Faults.{Test, stated_by}
use Rattle.xds_cache.specs.Deliveries.{Delivery, sotw_delivery, fault_in, statements, shown}
use Rattle.xds_cache.proofs.Making.{get-cache_after}
use Rattle.xds_cache.specs.Rest.{rest_taking}
use Rattle.xds_cache.proofs.Interests.{wants_what_is_reached, holds_what_is_wanted}
use Rattle.xds_ledger.specs.declared.variant.VariantName.TheVariants.{StateOfTheWorld}
use Rattle.xds_world.specs.Knows.{TypedWrite}
use Rattle.xds_world.specs.Claims.{holding_of, shown_of}
use Rattle.xds_world.proofs.Replicas.{some_is, never, both_parts}
use Rattle.xds_world.proofs.Delivering.{AllKnown, shown_in}
use Rattle.xds_world.proofs.Settled.{none_shown}
use Rattle.xds_world.proofs.Lanes.{stated_in}
use Rattle.xds_world.proofs.SotwDelivering.{listed, held_of, picked_is}
use Rattle.xds_world.proofs.Settled.{Shows}
use Rattle.xds_world.proofs.SettlingSessions.{never_both}
use Rattle.xds_world.proofs.SettlingFaults.{Blamed, first_blamed, Listed, sotw_listed}

-- ---- what is asked for

-- the interest of the one list of a poll
pub asked_is_interest : (t : TypeName) (w : Wants) (cluster : List ℕ) → wants_some w ≡ true → asked_once t (texts w) cluster ≡ interest t cluster w
asked_is_interest t w cluster some = ap (λ b. in_cluster cluster (if b || false then listed_interest t (texts w) else unnamed t (texts w ∷ []))) some

unless_some : (b : Bool) (x d : Drafted) → (if b then None else Some x) ≡ Some d → d ≡ x
unless_some true x d is = absurd (never d is)
unless_some false x d is = sym (some_is x d is)

unless_none : (b : Bool) (x : Drafted) → (if b then None else Some x) ≡ None → b ≡ true
unless_none true x is = refl
unless_none false x is = absurd (never x (sym is))

-- a body is of the whole
pub answers_whole : (replica : ℕ) (t : TypeName) (h : Holdings) (s : Selection) (version : List ℕ) (d : Drafted) → unless_present replica t h s version ≡ Some d → d ≡ whole replica t h s
answers_whole replica t h s version d is = unless_some (is_present replica h s version) (whole replica t h s) d is

-- none is given only where the version that was kept is the present one
pub answers_none : (replica : ℕ) (t : TypeName) (h : Holdings) (s : Selection) (version : List ℕ) → unless_present replica t h s version ≡ None → version ≡ interest_version replica h.changes s
answers_none replica t h s version is =
    let parts = both_parts s.star (bytes_eq version (interest_version replica h.changes s)) (unless_none (is_present replica h s version) (whole replica t h s) is) in
    bytes_eq_tells version (interest_version replica h.changes s) parts.1

-- ---- what is stated

filter_all : {X : Type 0} (xs : List X) → filter (λ x. true) xs ≡ xs
filter_all [] = refl
filter_all (x ∷ xs) = ap (λ l. x ∷ l) (filter_all xs)

abbrev bodied : Option Holding → Option (List ℕ)
bodied o = option_map (λ h. h.body) o

body_by : (b : Option (List ℕ)) (covered : Bool) (v : List ℕ) → bodied (option_or (held_of ((is_some b && covered) && true) b) None) ≡ bodied (if covered then option_map (λ x. record { version = v; body = x }) b else None)
body_by None true v = refl
body_by None false v = refl
body_by (Some x) true v = refl
body_by (Some x) false v = refl

-- the whole states the bodies that are to be shown
pub whole_states : (all : List TypedWrite) (t : TypeName) (replica : ℕ) (h : Holdings) (s : Selection) (q : List ℕ) → AllKnown all t h.entries → bodied (finmap.get (stated_in t (drafts.Sotw (whole replica t h s))) q) ≡ bodied (shown_in s h.entries q)
whole_states all t replica h s q known =
    ap (λ ws. bodied (finmap.get (stated_by t finmap.empty (listed ws)) q)) (sym (filter_all (content h.entries s)))
    ∙ ap bodied (picked_is all t h.entries s (λ w. true) known q) ∙ by_found (finmap.get h.entries q) refl
  where
    by_found : (o : Option StampedWrite) → finmap.get h.entries q ≡ o
        → bodied (option_or (cond (is_some o) (option_and_then (λ w. held_of (is_shown s w && true) w.body) o) None) None) ≡ bodied (option_and_then (shown_of s q) o)
    by_found None found = refl
    by_found (Some w) found =
        ap (λ n. bodied (option_or (held_of ((is_some w.body && covers s n w.groups) && true) w.body) None)) (known q w found).named ∙ body_by w.body (covers s q w.groups) (version_of w)

-- ---- what is shown once it is taken

or_none : (o : Option Holding) → option_or o None ≡ o
or_none None = refl
or_none (Some h) = refl

or_first : (o held : Option Holding) (b : List ℕ) → bodied o ≡ Some b → bodied (option_or o held) ≡ Some b
or_first None held b is = absurd (never b is)
or_first (Some h) held b is = is

module _ (cluster : List ℕ) (all : List TypedWrite) (t : TypeName) (f : Shelf) (replica : ℕ) (h : Holdings) (known : AllKnown all t h.entries) where
  abbrev sees : Selection
  sees = interest t cluster f.wants

  abbrev given : Delivery
  given = sotw_delivery t (message_of (whole replica t h sees))

  abbrev stated_at : List ℕ → Option Holding
  stated_at name = finmap.get (statements t given) name

  -- what isn't wanted isn't to be shown
  hidden : (name : List ℕ) → is_wanted t f.wants name ≡ false → shown_in sees h.entries name ≡ None
  hidden name unwanted = none_shown sees name (finmap.get h.entries name) (wants_what_is_reached t cluster f.wants name ∙ unwanted)

  exact_by : (name : List ℕ) (wanted : Bool) (complete : Bool) (o : Option Holding) → is_wanted t f.wants name ≡ wanted → complete ≡ true → o ≡ (if complete || finmap.contains_key given.removed name then None else finmap.get f.cache name)
      → bodied (if wanted then option_or (stated_at name) o else None) ≡ bodied (shown_in sees h.entries name)
  exact_by name true true o is complete held = ap (λ x. bodied (option_or (stated_at name) x)) held ∙ ap bodied (or_none (stated_at name)) ∙ whole_states all t replica h sees name known
  exact_by name false true o is complete held = ap bodied (sym (hidden name is))
  exact_by name wanted false o is complete held = absurd cc

  agrees_by : (name : List ℕ) (x : Holding) (wanted : Bool) (o : Option Holding) → is_wanted t f.wants name ≡ wanted → shown_in sees h.entries name ≡ Some x → bodied (if wanted then option_or (stated_at name) o else None) ≡ Some x.body
  agrees_by name x true o is live = or_first (stated_at name) o x.body (whole_states all t replica h sees name known ∙ ap bodied live)
  agrees_by name x false o is live = absurd (never x (sym (hidden name is) ∙ live))

  pub taken_shows : Shows StateOfTheWorld cluster t (rest_taking t f given) h.entries
  taken_shows = record {
    exact = λ name complete. ap bodied (get-cache_after t f.wants given.whole given.removed (statements t given) f.cache name) ∙ exact_by name (is_wanted t f.wants name) (row t).is_complete _ refl complete refl;
    agrees = λ name x live. ap bodied (get-cache_after t f.wants given.whole given.removed (statements t given) f.cache name) ∙ agrees_by name x (is_wanted t f.wants name) _ refl live;
    within = λ name unwanted. (holds_what_is_wanted t f.wants given.whole given.removed (statements t given) f.cache name unwanted).0;
  }

-- ---- what is rejected

-- that of these entries the test takes all that an interest covers
abbrev pub TakesShown : Test → TypeName → Entries → Selection → Type 0
TakesShown test t m s = (name : List ℕ) (h : Holding) → shown_in s m name ≡ Some h → test (row t).url name (value_of h.body) ≡ true

abbrev IsShownAt : Selection → Entries → List ℕ → Type 0
IsShownAt s m n = (w : StampedWrite) × (finmap.get m n ≡ Some w) × (is_shown s w ≡ true)

not_refused : (all : List TypedWrite) (test : Test) (t : TypeName) (m : Entries) (s : Selection) (ns : List (List ℕ)) → AllKnown all t m → TakesShown test t m s → (blamed : Blamed all test t m ns) → IsShownAt s m blamed.name → ⊥
not_refused all test t m s ns known takes blamed shown =
    let same : shown.0 ≡ blamed.write = some_is shown.0 blamed.write (sym shown.1 ∙ blamed.found) in
    let is : is_shown s blamed.write ≡ true = ap (is_shown s) (sym same) ∙ shown.2 in
    let covered : covers s blamed.name blamed.write.groups ≡ true = ap (λ n. covers s n blamed.write.groups) (sym blamed.known.named) ∙ (both_parts (is_live blamed.write) (covers s blamed.write.name blamed.write.groups) is).1 in
    let held : Holding = record { version = version_of blamed.write; body = blamed.body } in
    let live : shown_in s m blamed.name ≡ Some held =
    ap (option_and_then (shown_of s blamed.name)) blamed.found ∙ ap (λ b. if b then holding_of blamed.write else None) covered ∙ ap (option_map (λ body. record { version = version_of blamed.write; body = body })) blamed.puts in
    never_both (test (row t).url blamed.name (value_of blamed.body)) (takes blamed.name held live) blamed.refused

-- the whole isn't, where the test takes all of it
pub whole_is_taken : (all : List TypedWrite) (test : Test) (t : TypeName) (replica : ℕ) (h : Holdings) (s : Selection) → AllKnown all t h.entries → TakesShown test t h.entries s → fault_in t test (sotw_delivery t (message_of (whole replica t h s))) ≡ None
whole_is_taken all test t replica h s known takes = by_fault (fault_in t test (sotw_delivery t (message_of (whole replica t h s)))) refl
  where
    named : Listed all t h.entries (IsShownAt s h.entries) (map (λ x. x.0) (finmap.entries h.entries)) (listed (content h.entries s))
    named =
        subst (λ ws. Listed all t h.entries (IsShownAt s h.entries) (map (λ x. x.0) (finmap.entries h.entries)) (listed ws)) (filter_all (content h.entries s))
        (sotw_listed all t h.entries s (λ w. true) (IsShownAt s h.entries) (finmap.entries h.entries) (λ n w found is picked. (w, found, is)) known (finmap.entries_sorted h.entries) (each_found h.entries))

    by_fault : (o : Option (List ℕ)) → fault_in t test (sotw_delivery t (message_of (whole replica t h s))) ≡ o → o ≡ None
    by_fault None is = refl
    by_fault (Some x) is =
        let blamed =
        first_blamed all test t h.entries finmap.empty (listed (content h.entries s)) named.names finmap.empty named.lists (λ q has. ap is_some (finmap.get-empty text_cmp q)) (λ q has. ap is_some (finmap.get-empty text_cmp q)) (ap is_some is) in
        absurd (not_refused all test t h.entries s named.names known takes blamed (named.holds blamed.name blamed.among))
