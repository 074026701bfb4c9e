-- What a response of the incremental variant says of each name: what its offer says.
use Rattle.std.proofs.Common.{◌≡◌, ℕ, List, [], ◌∷◌, map, Bool, true, false, cond, ◌&&◌, ◌||◌, not, Option, Some, None, Ok, refl, sym, ap, subst, ◌∙◌}
use Rattle.std.specs.Prelude.{bytes_eq, if◌then◌else◌, is_some, option_map, Contains}
use Rattle.std.specs.Option.{option_or, option_and_then, option_map_or, ForSome}
use Rattle.std.specs.List.{filter, filter_map, cons_option}
use Rattle.std.specs.FinMap as finmap
use Rattle.xds_resource.specs.declared.types.TypeName.{TypeName}
use Rattle.xds_resource.specs.declared.refusal.Refusal.{Refusal}
use Rattle.xds_resource.specs.declared.refusal.Refusal.TheVariants.{BadResource, BadName}
use Rattle.xds_resource.specs.Refusals.{unless_refused}
use Rattle.xds_resource.specs.Resources.{NamedBody, IsCanonical, value_of, resource_of, is_resource, is_valid_name, name_or_empty}
use Rattle.xds_resource.specs.Writes.{StampedWrite, text_cmp, version_of}
use Rattle.xds_resource.proofs.NameMaps.{has_text, get-insert, get-tabulate, has_text-keys, bytes_eq_tells, bytes_eq_swap}
use Rattle.xds_resource.proofs.MadeMaps.{EachFound, each_found}
use Rattle.xds_interest.specs.Interests.{Selection, reaches, covers}
use Rattle.xds_interest.proofs.Reaching.{covered_is_reached}
use Rattle.xds_catalogue.specs.Holdings.{Holdings, Entries}
use Rattle.xds_message.specs.declared.draft.Draft.TheVariants as drafts
use Rattle.xds_message.specs.Drafts.{DraftedResource, drafted_resource}
use Rattle.xds_ledger.specs.declared.variant.VariantName.{VariantName}
use Rattle.xds_ledger.specs.declared.variant.VariantName.TheVariants.{Delta}
use Rattle.xds_ledger.specs.declared.entry.Due.{Due}
use Rattle.xds_ledger.specs.declared.entry.Due.TheVariants.{Stated, Removed}
use Rattle.xds_ledger.specs.Variants.{is_whole}
use Rattle.xds_ledger.specs.Owed.{Beliefs, live_version, version_shown, present, is_owed, owed_of}
use Rattle.xds_ledger.specs.Offers.{Offer, offer, stated_version}
use Rattle.xds_ledger.proofs.ByName.{offer_says_it}
use Rattle.xds_sessions.specs.DeltaPolls.{is_statement, is_removal, names_where, resource_of as drafted_of, resource_at, response}
use Rattle.xds_sessions.proofs.Stating.{present_if_stated, kept_at}
use Rattle.xds_cache.specs.Shelves.{Holding, Cache, marked}
use Rattle.xds_cache.specs.Faults.{Stated as StatedResource, stated_by, and_stated}
use Rattle.xds_cache.specs.Deliveries.{delta_stated}
use Rattle.xds_world.specs.Knows.{TypedWrite}
use Rattle.xds_world.specs.Claims.{holding_of, shown_of}
use Rattle.xds_world.proofs.Replicas.{some_is, ok_is, if_both}
use Rattle.xds_world.proofs.ByOneName.{Says}
use Rattle.xds_world.proofs.Lanes.{IsAt, IsMade, stated_in, is_removed_in}

-- ---- what a catalogue holds

-- what is known of the write under a name: it has that name, it was made, and what it puts is a resource
pub record IsKnown (all : List TypedWrite) (t : TypeName) (name : List ℕ) (w : StampedWrite) : Type 0 where
  pub named : w.name ≡ name
  pub made : Contains all (t, w)
  pub canonical : ForSome w.body (λ b. IsCanonical t (record { name = w.name; body = b }))

abbrev pub AllKnown : List TypedWrite → TypeName → Entries → Type 0
AllKnown all t m = (name : List ℕ) (w : StampedWrite) → finmap.get m name ≡ Some w → IsKnown all t name w

-- what is live under a name
abbrev pub live : Entries → List ℕ → Option Holding
live m name = option_and_then holding_of (finmap.get m name)

-- what of that an interest covers
abbrev pub shown_in : Selection → Entries → List ℕ → Option Holding
shown_in s m name = option_and_then (shown_of s name) (finmap.get m name)

-- ---- a canonical body is the resource that it was

unrefused : (b c : Bool) (e f : Refusal) (x y : NamedBody) → unless_refused ((b, e) ∷ (c, f) ∷ []) x ≡ Ok y → x ≡ y
unrefused true c e f x y is = absurd cc
unrefused false true e f x y is = absurd cc
unrefused false false e f x y is = ok_is x y is

pub canonical_is : (t : TypeName) (r : NamedBody) → IsCanonical t r → resource_of t (value_of r.body) ≡ r
canonical_is t r is =
    unrefused (not (is_resource t (value_of r.body))) (not (is_valid_name (name_or_empty t (value_of r.body)))) BadResource BadName (resource_of t (value_of r.body)) r is.object

-- ---- the resources that are stated

skipped : (same has : Bool) (l old : Option Holding) → (same ≡ true → l ≡ None) → option_or (cond has l None) old ≡ option_or (cond (same || has) l None) old
skipped true true l old is = refl
skipped true false l old is = ap (λ o. option_or o old) (sym (is refl))
skipped false has l old is = refl

put_on : (same has : Bool) (l old : Option Holding) (h : Holding) → (same ≡ true → l ≡ Some h) → option_or (cond has l None) (cond same (Some h) old) ≡ option_or (cond (same || has) l None) old
put_on true true l old h is = ap (λ o. option_or o (Some h)) (is refl) ∙ ap (λ o. option_or o old) (sym (is refl))
put_on true false l old h is = ap (λ o. option_or o old) (sym (is refl))
put_on false has l old h is = refl

-- by what is to be stated of each name
module _ (t : TypeName) (told : List ℕ → Option Holding) (q : List ℕ) where
  -- what resources state of these names, over what was stated before
  abbrev pub States : List StatedResource → List (List ℕ) → Type 0
  States rs ns = (before : Cache) → finmap.get (stated_by t before rs) q ≡ option_or (cond (has_text ns q) (told q) None) (finmap.get before q)

  -- one more name, of which nothing is
  pub states_skip : (n : List ℕ) (rs : List StatedResource) (ns : List (List ℕ)) → told n ≡ None → States rs ns → States rs (n ∷ ns)
  states_skip n rs ns none behind before = behind before ∙ skipped (bytes_eq q n) (has_text ns q) (told q) (finmap.get before q) (λ same. ap told (bytes_eq_tells q n same) ∙ none)

  -- and one of which a write's body is
  pub states_put : (all : List TypedWrite) (n : List ℕ) (w : StampedWrite) (body : List ℕ) (r : StatedResource) (rs : List StatedResource) (ns : List (List ℕ)) → IsKnown all t n w → w.body ≡ Some body → r.resource ≡ value_of body → told n ≡ Some (record { version = r.version; body = body })
      → States rs ns → States (r ∷ rs) (n ∷ ns)
  states_put all n w body r rs ns known puts resource is behind before =
      let h : Holding = record { version = r.version; body = body } in
      let same : resource_of t r.resource ≡ record { name = w.name; body = body } = ap (resource_of t) resource ∙ canonical_is t (record { name = w.name; body = body }) (known.canonical body puts) in
      let stated : finmap.get (and_stated t before r) q ≡ cond (bytes_eq q n) (Some h) (finmap.get before q) =
      ap (λ (x : NamedBody). finmap.get (finmap.insert before x.name (record { version = r.version; body = x.body })) q) same ∙ get-insert before w.name h q
      ∙ ap (λ b. cond b (Some h) (finmap.get before q)) (ap (λ x. bytes_eq x q) known.named ∙ bytes_eq_swap n q) in
      behind (and_stated t before r) ∙ ap (option_or (cond (has_text ns q) (told q) None)) stated ∙ put_on (bytes_eq q n) (has_text ns q) (told q) (finmap.get before q) h (λ equal. ap told (bytes_eq_tells q n equal) ∙ is)

abbrev pub listed : Entries → List (List ℕ) → List StatedResource
listed m ns = map delta_stated (map drafted_resource (filter_map (resource_at m) ns))

abbrev pub with_first : Option DraftedResource → Entries → List (List ℕ) → List StatedResource
with_first r m ns = map delta_stated (map drafted_resource (cons_option r (filter_map (resource_at m) ns)))

stated_name : (all : List TypedWrite) (t : TypeName) (m : Entries) (n q : List ℕ) (ns : List (List ℕ)) (o : Option StampedWrite) (b : Option (List ℕ)) → finmap.get m n ≡ o → option_and_then (λ (w : StampedWrite). w.body) o ≡ b → AllKnown all t m → States t (live m) q (listed m ns) ns
    → States t (live m) q (with_first (option_and_then drafted_of o) m ns) (n ∷ ns)
stated_name all t m n q ns None b has is known behind = states_skip t (live m) q n (listed m ns) ns (ap (option_and_then holding_of) has) behind
stated_name all t m n q ns (Some w) None has is known behind =
    subst (λ (x : Option (List ℕ)). States t (live m) q (with_first (option_map (λ body. record { name = w.name; version = version_of w; body = body }) x) m ns) (n ∷ ns)) (sym is)
    (states_skip t (live m) q n (listed m ns) ns (ap (option_and_then holding_of) has ∙ ap (option_map (λ body. record { version = version_of w; body = body })) is) behind)
stated_name all t m n q ns (Some w) (Some body) has is known behind =
    subst (λ (x : Option (List ℕ)). States t (live m) q (with_first (option_map (λ y. record { name = w.name; version = version_of w; body = y }) x) m ns) (n ∷ ns)) (sym is)
    (states_put t (live m) q all n w body (record { named = Some w.name; version = version_of w; resource = value_of body }) (listed m ns) ns (known n w has) is refl
    (ap (option_and_then holding_of) has ∙ ap (option_map (λ x. record { version = version_of w; body = x })) is) behind)

stated_names : (all : List TypedWrite) (t : TypeName) (m : Entries) (ns : List (List ℕ)) (q : List ℕ) → AllKnown all t m → States t (live m) q (listed m ns) ns
stated_names all t m [] q known before = refl
stated_names all t m (n ∷ ns) q known before = stated_name all t m n q ns (finmap.get m n) (option_and_then (λ (w : StampedWrite). w.body) (finmap.get m n)) refl refl known (stated_names all t m ns q known) before

-- ---- the names of which an offer says something

picked : (b same has says x : Bool) → x ≡ (has && says) → (same ≡ true → says ≡ b) → cond b (same || x) x ≡ ((same || has) && says)
picked true true has says x is at = sym (at refl)
picked true false has says x is at = is
picked false true true says x is at = is
picked false true false says x is at = is ∙ sym (at refl)
picked false false has says x is at = is

kept_name : (b : Bool) (e : List ℕ × Due) (es : List (List ℕ × Due)) (q : List ℕ) → has_text (map (λ x. x.0) (if b then e ∷ es else es)) q ≡ cond b (bytes_eq q e.0 || has_text (map (λ x. x.0) es) q) (has_text (map (λ x. x.0) es) q)
kept_name true e es q = refl
kept_name false e es q = refl

found_where : (says : Due → Bool) (o : Offer) (es : List (List ℕ × Due)) (q : List ℕ) → EachFound o es
    → has_text (map (λ e. e.0) (filter (λ e. says e.1) es)) q ≡ (has_text (map (λ e. e.0) es) q && option_map_or says (finmap.get o q) false)
found_where says o [] q found = refl
found_where says o (e ∷ es) q found =
    kept_name (says e.1) e (filter (λ x. says x.1) es) q
    ∙ picked (says e.1) (bytes_eq q e.0) (has_text (map (λ x. x.0) es) q) (option_map_or says (finmap.get o q) false) (has_text (map (λ x. x.0) (filter (λ x. says x.1) es)) q) (found_where says o es q found.1)
    (λ same. ap (λ x. option_map_or says (finmap.get o x) false) (bytes_eq_tells q e.0 same) ∙ ap (λ x. option_map_or says x false) found.0)

only_there : (says : Due → Bool) (x : Option Due) → (is_some x && option_map_or says x false) ≡ option_map_or says x false
only_there says None = refl
only_there says (Some d) = refl

names_there : (says : Due → Bool) (o : Offer) (q : List ℕ) → has_text (names_where says o) q ≡ option_map_or says (finmap.get o q) false
names_there says o q = found_where says o (finmap.entries o) q (each_found o) ∙ ap (λ b. b && option_map_or says (finmap.get o q) false) (has_text-keys o q) ∙ only_there says (finmap.get o q)

-- ---- the response

stated_there : (all : List TypedWrite) (replica : ℕ) (t : TypeName) (h : Holdings) (o : Offer) (number : ℕ) (q : List ℕ) → AllKnown all t h.entries
    → finmap.get (stated_in t (drafts.Delta (response replica t h o number))) q ≡ option_or (cond (option_map_or is_statement (finmap.get o q) false) (live h.entries q) None) None
stated_there all replica t h o number q known =
    stated_names all t h.entries (names_where is_statement o) q known finmap.empty ∙ (λ i. option_or (cond (names_there is_statement o q i) (live h.entries q) None) (finmap.get-empty text_cmp q i))

marked_there : (b : Bool) → is_some (cond {A = Option (Unit {0})} b (Some tt) None) ≡ b
marked_there true = refl
marked_there false = refl

removed_there : (replica : ℕ) (t : TypeName) (h : Holdings) (o : Offer) (number : ℕ) (q : List ℕ) → is_removed_in t (drafts.Delta (response replica t h o number)) q ≡ option_map_or is_removal (finmap.get o q) false
removed_there replica t h o number q = ap is_some (get-tabulate marked (names_where is_removal o) q) ∙ marked_there (has_text (names_where is_removal o) q) ∙ names_there is_removal o q

-- ---- what is offered is present

pub whole_at : (p : Option (List ℕ)) (version : List ℕ) → option_map Stated p ≡ Some (Stated version) → p ≡ Some version
whole_at None version is = absurd cc
whole_at (Some v) version is = ap (option_and_then stated_version) is

present_by : (v : VariantName) (t : TypeName) (s : Selection) (m : Entries) (b : Beliefs) (q version : List ℕ) (whole : Bool)
    → (if whole then option_map Stated (present s m q) else if is_owed v t s m b q then owed_of s m b q else None) ≡ Some (Stated version) → present s m q ≡ Some version
present_by v t s m b q version true is = whole_at (present s m q) version is
present_by v t s m b q version false is = present_if_stated (finmap.get b q) (present s m q) version (kept_at (is_owed v t s m b q) (owed_of s m b q) version is)

pub stated_present : (v : VariantName) (t : TypeName) (s : Selection) (m : Entries) (b : Beliefs) (q version : List ℕ) → finmap.get (offer v t s m b) q ≡ Some (Stated version) → present s m q ≡ Some version
stated_present v t s m b q version is = present_by v t s m b q version (is_whole v t) (sym (offer_says_it v t s m b q) ∙ is)

live_body : (w : StampedWrite) (version : List ℕ) (b : Option (List ℕ)) → (if is_some b then Some (version_of w) else None) ≡ Some version
    → (h : Holding) × (option_map (λ body. record { version = version_of w; body = body }) b ≡ Some h) × (h.version ≡ version)
live_body w version None is = absurd cc
live_body w version (Some body) is = (record { version = version_of w; body = body }, refl, some_is (version_of w) version is)

-- what is present is reached, and live at that version
pub live_at : (s : Selection) (q : List ℕ) (o : Option StampedWrite) (version : List ℕ) → option_and_then (version_shown s q) o ≡ Some version
    → (reaches s q ≡ true) × (h : Holding) × (option_and_then holding_of o ≡ Some h) × (h.version ≡ version)
live_at s q None version is = absurd cc
live_at s q (Some w) version is =
    let shown = if_both (covers s q w.groups) (live_version w) version is in
    let body = live_body w version w.body shown.1 in (covered_is_reached s q w.groups shown.0, body.0, body.1, body.2)

-- ---- what a response says

says_by : (all : List TypedWrite) (s : Selection) (m : Entries) (b : Beliefs) (t : TypeName) (q : List ℕ) (x : Option Due) (removed : Bool) (stated : Option Holding) → finmap.get (offer Delta t s m b) q ≡ x → removed ≡ option_map_or is_removal x false
    → stated ≡ option_or (cond (option_map_or is_statement x false) (live m q) None) None → Says (IsAt Delta all t q) x removed stated
says_by all s m b t q None removed stated is gone states = (states, gone)
says_by all s m b t q (Some (Stated version)) removed stated is gone states =
    let at = live_at s q (finmap.get m q) version (stated_present Delta t s m b q version is) in
    (at.1, states ∙ ap (λ o. option_or o None) at.2, at.3)
says_by all s m b t q (Some Removed) removed stated is gone states = (states, gone)

pub response_says : (all : List TypedWrite) (replica : ℕ) (t : TypeName) (h : Holdings) (s : Selection) (b : Beliefs) (number : ℕ) (q : List ℕ) → AllKnown all t h.entries
    → let o : Offer = offer Delta t s h.entries b in Says (IsAt Delta all t q) (finmap.get o q) (is_removed_in t (drafts.Delta (response replica t h o number)) q) (finmap.get (stated_in t (drafts.Delta (response replica t h o number))) q)
response_says all replica t h s b number q known =
    let o : Offer = offer Delta t s h.entries b in
    says_by all s h.entries b t q (finmap.get o q) (is_removed_in t (drafts.Delta (response replica t h o number)) q) (finmap.get (stated_in t (drafts.Delta (response replica t h o number))) q) refl (removed_there replica t h o number q)
    (stated_there all replica t h o number q known)

only_live : (b : Bool) (l : Option Holding) (h : Holding) → option_or (cond b l None) None ≡ Some h → l ≡ Some h
only_live true None h is = absurd cc
only_live true (Some x) h is = is
only_live false l h is = absurd cc

-- what is live was made
pub live_made : (all : List TypedWrite) (t : TypeName) (m : Entries) (q : List ℕ) (h : Holding) (o : Option StampedWrite) → finmap.get m q ≡ o → AllKnown all t m → option_and_then holding_of o ≡ Some h → IsMade Delta all t q h
live_made all t m q h None has known is = absurd cc
live_made all t m q h (Some w) has known is = let of = known q w has in (w, of.made, of.named, is)

pub response_made : (all : List TypedWrite) (replica : ℕ) (t : TypeName) (h : Holdings) (o : Offer) (number : ℕ) (q : List ℕ) (x : Holding) → AllKnown all t h.entries
    → finmap.get (stated_in t (drafts.Delta (response replica t h o number))) q ≡ Some x → IsMade Delta all t q x
response_made all replica t h o number q x known is =
    live_made all t h.entries q x (finmap.get h.entries q) refl known (only_live (option_map_or is_statement (finmap.get o q) false) (live h.entries q) x (sym (stated_there all replica t h o number q known) ∙ is))

-- what is stated is reached
pub stated_is_reached : (v : VariantName) (t : TypeName) (s : Selection) (m : Entries) (b : Beliefs) (q version : List ℕ) → finmap.get (offer v t s m b) q ≡ Some (Stated version) → reaches s q ≡ true
stated_is_reached v t s m b q version is = (live_at s q (finmap.get m q) version (stated_present v t s m b q version is)).0
