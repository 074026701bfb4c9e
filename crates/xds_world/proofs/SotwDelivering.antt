-- What a response of the state of the world says of each name: what its offer says.
use Rattle.std.proofs.Common.{◌≡◌, ℕ, List, [], ◌∷◌, map, Bool, true, false, cond, ◌&&◌, Option, Some, None, refl, sym, ap, ◌∙◌}
use Rattle.std.specs.Prelude.{if◌then◌else◌, is_some, option_map}
use Rattle.std.specs.Option.{option_or, option_and_then, option_map_or}
use Rattle.std.specs.List.{filter, filter_map, cons_option}
use Rattle.std.specs.FinMap as finmap
use Rattle.xds_resource.specs.declared.types.TypeName.{TypeName}
use Rattle.xds_resource.specs.Types.{row}
use Rattle.xds_resource.specs.Resources.{value_of}
use Rattle.xds_resource.specs.Writes.{StampedWrite, text_cmp, version_of}
use Rattle.xds_resource.proofs.NameMaps.{has_text-keys}
use Rattle.xds_resource.proofs.MadeMaps.{EachFound, each_found}
use Rattle.xds_interest.specs.Interests.{Selection, covers}
use Rattle.xds_catalogue.specs.Holdings.{Holdings, Entries}
use Rattle.xds_catalogue.specs.Content.{is_shown, content}
use Rattle.xds_message.specs.declared.draft.Draft.TheVariants as drafts
use Rattle.xds_ledger.specs.declared.variant.VariantName.TheVariants.{StateOfTheWorld}
use Rattle.xds_ledger.specs.declared.entry.Entry.{Entry}
use Rattle.xds_ledger.specs.declared.entry.Due.{Due}
use Rattle.xds_ledger.specs.declared.entry.Due.TheVariants.{Stated, Removed}
use Rattle.xds_ledger.specs.Variants.{is_told}
use Rattle.xds_ledger.specs.Owed.{Beliefs, live_version, version_shown, present, owed}
use Rattle.xds_ledger.specs.Offers.{Offer, offer}
use Rattle.xds_ledger.proofs.ByName.{offer_says_it}
use Rattle.xds_sessions.specs.SotwPolls.{response, stated_writes}
use Rattle.xds_cache.specs.Shelves.{Holding}
use Rattle.xds_cache.specs.Faults.{Stated as StatedResource, stated_by}
use Rattle.xds_cache.specs.Deliveries.{sotw_stated}
use Rattle.xds_world.specs.Knows.{TypedWrite}
use Rattle.xds_world.proofs.Replicas.{some_is, if_both}
use Rattle.xds_world.proofs.Delivering.{IsKnown, AllKnown, States, states_skip, states_put, stated_present}
use Rattle.xds_world.proofs.ByOneName.{IsHeld, Says}
use Rattle.xds_world.proofs.Lanes.{IsAt, stated_in, is_removed_in}

-- ---- what is stated of a list of writes

abbrev pub listed : List StampedWrite → List StatedResource
listed ws = map sotw_stated (map value_of (filter_map (λ w. w.body) ws))

-- one write more in front, if it is picked
abbrev next : Bool → Option (List ℕ) → List StatedResource → List StatedResource
next picked None rest = rest
next picked (Some body) rest = if picked then sotw_stated (value_of body) ∷ rest else rest

listed_body : (b : Option (List ℕ)) (ws : List StampedWrite) → map sotw_stated (map value_of (cons_option b (filter_map (λ w. w.body) ws))) ≡ next true b (listed ws)
listed_body None ws = refl
listed_body (Some body) ws = refl

not_picked : (b : Option (List ℕ)) (rest : List StatedResource) → rest ≡ next false b rest
not_picked None rest = refl
not_picked (Some body) rest = refl

picked_next : (p : StampedWrite → Bool) (w : StampedWrite) (ws : List StampedWrite) (shown offered : Bool) → p w ≡ offered → listed (filter p (if shown then w ∷ ws else ws)) ≡ next (shown && offered) w.body (listed (filter p ws))
picked_next p w ws false offered is = not_picked w.body (listed (filter p ws))
picked_next p w ws true true is = ap (λ b. listed (if b then w ∷ filter p ws else filter p ws)) is ∙ listed_body w.body (filter p ws)
picked_next p w ws true false is = ap (λ b. listed (if b then w ∷ filter p ws else filter p ws)) is ∙ not_picked w.body (listed (filter p ws))

-- ---- name by name

-- what is held of a write that is picked
abbrev pub held_of : Bool → Option (List ℕ) → Option Holding
held_of picked b = if picked then option_map (λ body. record { version = []; body = body }) b else None

-- of the writes that are shown, those that p picks
module _ (all : List TypedWrite) (t : TypeName) (m : Entries) (s : Selection) (p : StampedWrite → Bool) (known : AllKnown all t m) where
  abbrev picks : StampedWrite → Bool
  picks w = is_shown s w && p w

  -- what is stated of a name
  abbrev told_of : List ℕ → Option Holding
  told_of q = option_and_then (λ w. held_of (picks w) w.body) (finmap.get m q)

  abbrev behind : List (List ℕ × StampedWrite) → List StatedResource
  behind es = listed (filter p (filter (is_shown s) (map (λ e. e.1) es)))

  abbrev keys : List (List ℕ × StampedWrite) → List (List ℕ)
  keys es = map (λ e. e.0) es

  states_next : (n q : List ℕ) (w : StampedWrite) (es : List (List ℕ × StampedWrite)) (picked : Bool) (b : Option (List ℕ)) → told_of n ≡ held_of picked b → w.body ≡ b → IsKnown all t n w → States t told_of q (behind es) (keys es) → States t told_of q (next picked b (behind es)) (n ∷ keys es)
  states_next n q w es picked None is body of rest = states_skip t told_of q n (behind es) (keys es) (is ∙ nothing picked) rest
    where
      nothing : (c : Bool) → held_of c None ≡ None
      nothing true = refl
      nothing false = refl
  states_next n q w es false (Some x) is body of rest = states_skip t told_of q n (behind es) (keys es) is rest
  states_next n q w es true (Some x) is body of rest = states_put t told_of q all n w x (sotw_stated (value_of x)) (behind es) (keys es) of body refl is rest

  states_all : (es : List (List ℕ × StampedWrite)) (q : List ℕ) → EachFound m es → States t told_of q (behind es) (keys es)
  states_all [] q found before = refl
  states_all (e ∷ es) q found before =
      ap (λ l. finmap.get (stated_by t before l) q) (picked_next p e.1 (filter (is_shown s) (map (λ x. x.1) es)) (is_shown s e.1) (p e.1) refl)
      ∙ states_next e.0 q e.1 es (picks e.1) e.1.body (ap (option_and_then (λ (x : StampedWrite). held_of (picks x) x.body)) found.0) refl (known e.0 e.1 found.0) (states_all es q found.1) before

  -- what is stated of a name where these are stated
  pub picked_is : (q : List ℕ) → finmap.get (stated_by t finmap.empty (listed (filter p (content m s)))) q ≡ option_or (cond (is_some (finmap.get m q)) (told_of q) None) None
  picked_is q = states_all (finmap.entries m) q (each_found m) finmap.empty ∙ (λ i. option_or (cond (has_text-keys m q i) (told_of q) None) (finmap.get-empty text_cmp q i))

module _ (all : List TypedWrite) (t : TypeName) (m : Entries) (s : Selection) (o : Offer) (known : AllKnown all t m) where
  abbrev offers : StampedWrite → Bool
  offers w = is_shown s w && is_some (finmap.get o w.name)

  -- what the response states of a name
  pub stated_is : (replica number : ℕ) (h : Holdings) (q : List ℕ) → h.entries ≡ m → finmap.get (stated_in t (drafts.Sotw (response replica t h s o number))) q ≡ option_or (cond (is_some (finmap.get m q)) (option_and_then (λ w. held_of (offers w) w.body) (finmap.get m q)) None) None
  stated_is replica number h q same = ap (λ e. finmap.get (stated_by t finmap.empty (listed (stated_writes e s o))) q) same ∙ picked_is all t m s (λ w. is_some (finmap.get o w.name)) known q

  -- a write that is offered
  says_stated : (q version : List ℕ) (stated : Option Holding) (x : Option StampedWrite) → finmap.get m q ≡ x → stated ≡ option_or (cond (is_some x) (option_and_then (λ w. held_of (offers w) w.body) x) None) None
      → option_and_then (version_shown s q) x ≡ Some version → is_some (finmap.get o q) ≡ true → IsHeld (IsAt StateOfTheWorld all t q) version stated
  says_stated q version stated None found states is offered = absurd cc
  says_stated q version stated (Some w) found states is offered = by_body w.body refl
    where
      of : IsKnown all t q w
      of = known q w found

      shown : (covers s q w.groups ≡ true) × (live_version w ≡ Some version)
      shown = if_both (covers s q w.groups) (live_version w) version is

      by_body : (b : Option (List ℕ)) → w.body ≡ b → IsHeld (IsAt StateOfTheWorld all t q) version stated
      by_body None body = let never : None ≡ Some version = sym (ap (λ b. if is_some b then Some (version_of w) else None) body) ∙ shown.1 in absurd cc
      by_body (Some x) body = (
        record { version = []; body = x },
        states
            ∙ (λ i. option_or (held_of ((is_some (body i) && (ap (λ n. covers s n w.groups) of.named ∙ shown.0) i) && (ap (λ n. is_some (finmap.get o n)) of.named ∙ offered) i) (body i)) None),
        (w, of.made, of.named, some_is (version_of w) version (sym (ap (λ b. if is_some b then Some (version_of w) else None) body) ∙ shown.1), body),
      )

  -- and one that isn't
  says_nothing : (q : List ℕ) (stated : Option Holding) (x : Option StampedWrite) → finmap.get m q ≡ x → stated ≡ option_or (cond (is_some x) (option_and_then (λ w. held_of (offers w) w.body) x) None) None → is_some (finmap.get o q) ≡ false → stated ≡ None
  says_nothing q stated None found states offered = states
  says_nothing q stated (Some w) found states offered =
      states ∙ ap (λ c. option_or (held_of (is_shown s w && c) w.body) None) (ap (λ n. is_some (finmap.get o n)) (known q w found).named ∙ offered) ∙ not_shown (is_shown s w)
    where
      not_shown : (c : Bool) → option_or (held_of (c && false) w.body) None ≡ None
      not_shown true = refl
      not_shown false = refl

-- ---- what is offered

stated_or_none : (b : Bool) (v : List ℕ) → (if b then Some (Stated v) else None) ≡ Some Removed → ⊥
stated_or_none true v is = absurd cc
stated_or_none false v is = absurd cc

owed_removed : (tells : Due → Bool) (x : Option Due) → tells Removed ≡ false → (if option_map_or tells x false then x else None) ≡ Some Removed → ⊥
owed_removed tells None partial is = absurd cc
owed_removed tells (Some (Stated v)) partial is = stated_or_none (tells (Stated v)) v is
owed_removed tells (Some Removed) partial is = let never : None ≡ Some Removed = ap (λ b. if b then Some Removed else None) (sym partial) ∙ is in absurd cc

removed_by : (complete : Bool) (e : Option Entry) (p : Option (List ℕ)) (tells : Due → Bool) → (complete ≡ false → tells Removed ≡ false) → (if complete then option_map Stated p else if option_map_or tells (owed e p) false then owed e p else None) ≡ Some Removed → ⊥
removed_by true e None tells partial is = absurd cc
removed_by true e (Some v) tells partial is = absurd cc
removed_by false e p tells partial is = owed_removed tells (owed e p) (partial refl) is

-- no removal is
never_removed : (t : TypeName) (s : Selection) (m : Entries) (b : Beliefs) (q : List ℕ) → finmap.get (offer StateOfTheWorld t s m b) q ≡ Some Removed → ⊥
never_removed t s m b q is = removed_by (row t).is_complete (finmap.get b q) (present s m q) (is_told StateOfTheWorld t) (λ partial. partial) (sym (offer_says_it StateOfTheWorld t s m b q) ∙ is)

pub offered_is : (t : TypeName) (s : Selection) (m : Entries) (b : Beliefs) (q : List ℕ) (d : Due) → finmap.get (offer StateOfTheWorld t s m b) q ≡ Some d → (version : List ℕ) × (d ≡ Stated version) × (present s m q ≡ Some version)
offered_is t s m b q (Stated version) is = (version, refl, stated_present StateOfTheWorld t s m b q version is)
offered_is t s m b q Removed is = absurd (never_removed t s m b q is)

says_by : (all : List TypedWrite) (t : TypeName) (h : Holdings) (s : Selection) (b : Beliefs) (known : AllKnown all t h.entries) (q : List ℕ) (removed : Bool) (stated : Option Holding) (x : Option Due) → finmap.get (offer StateOfTheWorld t s h.entries b) q ≡ x → removed ≡ false
    → stated ≡ option_or (cond (is_some (finmap.get h.entries q)) (option_and_then (λ w. held_of (is_shown s w && is_some (finmap.get (offer StateOfTheWorld t s h.entries b) w.name)) w.body) (finmap.get h.entries q)) None) None
    → Says (IsAt StateOfTheWorld all t q) x removed stated
says_by all t h s b known q removed stated None is gone states = (says_nothing all t h.entries s (offer StateOfTheWorld t s h.entries b) known q stated (finmap.get h.entries q) refl states (ap is_some is), gone)
says_by all t h s b known q removed stated (Some (Stated version)) is gone states =
    says_stated all t h.entries s (offer StateOfTheWorld t s h.entries b) known q version stated (finmap.get h.entries q) refl states (stated_present StateOfTheWorld t s h.entries b q version is) (ap is_some is)
says_by all t h s b known q removed stated (Some Removed) is gone states = absurd (never_removed t s h.entries b q is)

pub response_says : (all : List TypedWrite) (replica : ℕ) (t : TypeName) (h : Holdings) (s : Selection) (b : Beliefs) (number : ℕ) (q : List ℕ) → AllKnown all t h.entries
    → let o : Offer = offer StateOfTheWorld t s h.entries b in
    let d = drafts.Sotw (response replica t h s o number) in
    Says (IsAt StateOfTheWorld all t q) (finmap.get o q) (is_removed_in t d q) (finmap.get (stated_in t d) q)
response_says all replica t h s b number q known =
    let o : Offer = offer StateOfTheWorld t s h.entries b in
    let d = drafts.Sotw (response replica t h s o number) in
    says_by all t h s b known q (is_removed_in t d q) (finmap.get (stated_in t d) q) (finmap.get o q) refl (ap is_some (finmap.get-empty text_cmp q)) (stated_is all t h.entries s o known replica number h q refl)
