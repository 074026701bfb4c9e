-- Why a client rejects a response: its test refuses a resource that the response states.
use Rattle.std.proofs.Common.{◌≡◌, ◌⊎◌, inl, inr, ℕ, List, [], ◌∷◌, map, Bool, true, false, cond, ◌||◌, not, Option, Some, None, refl, sym, ap, subst, ◌∙◌}
use Rattle.std.specs.Prelude.{T, bytes_eq, if◌then◌else◌, is_some, option_map, Contains, ⊤}
use Rattle.std.specs.Option.{option_or, option_and_then, option_map_or}
use Rattle.std.specs.Ordering.{is_lt}
use Rattle.std.specs.List.{filter, filter_map, cons_option}
use Rattle.std.specs.FinMap as finmap
use Rattle.std.specs.FinMap.Entries.{below_all, is_sorted}
use Rattle.std.proofs.lemmas.Map.Text.{is_eq-slice_cmp}
use Rattle.std.proofs.lemmas.Bool.{or_right}
use Rattle.xds_resource.specs.declared.types.TypeName.{TypeName}
use Rattle.xds_resource.specs.Types.{row}
use Rattle.xds_resource.specs.Resources.{NamedBody, IsCanonical, value_of, resource_of, from_value}
use Rattle.xds_resource.specs.Writes.{StampedWrite, text_cmp, version_of}
use Rattle.xds_resource.specs.PerType.{PerType, at}
use Rattle.xds_resource.proofs.NameMaps.{has_text, get-insert, get-tabulate, bytes_eq_same, bytes_eq_tells}
use Rattle.xds_resource.proofs.MadeMaps.{EachFound, each_found, less_is_no_tie}
use Rattle.xds_resource.proofs.BoolsAndLists.{holds_first, holds_second}
use Rattle.xds_interest.specs.Interests.{Selection, covers}
use Rattle.xds_catalogue.specs.Holdings.{Holdings, Entries}
use Rattle.xds_catalogue.specs.Content.{is_shown}
use Rattle.xds_message.specs.Drafts.{message_of, delta_message_of}
use Rattle.xds_ledger.specs.declared.variant.VariantName.{VariantName}
use Rattle.xds_ledger.specs.declared.variant.VariantName.TheVariants as variants
use Rattle.xds_ledger.specs.declared.entry.Due.{Due}
use Rattle.xds_ledger.specs.declared.entry.Due.TheVariants.{Stated, Removed}
use Rattle.xds_ledger.specs.Owed.{Beliefs, live_version, version_shown, present}
use Rattle.xds_ledger.specs.Offers.{Offer, offer}
use Rattle.xds_ledger.specs.Sessions as sessions
use Rattle.xds_ledger.specs.Sessions.{Session}
use Rattle.xds_sessions.specs.SotwPolls as sotw
use Rattle.xds_sessions.specs.DeltaPolls as delta
use Rattle.xds_sessions.specs.DeltaPolls.{is_statement, is_removal, names_where, resource_of as drafted_of}
use Rattle.xds_core.specs.Stores.{Store}
use Rattle.xds_core.specs.Streams.{response_of}
use Rattle.xds_cache.specs.Shelves.{Cache, Wants, wants_of, marked}
use Rattle.xds_cache.specs.Faults.{Test, Stated as StatedResource, first_reason, is_misnamed, fault_by, fault_of, and_stated, first_fault, holding_of}
use Rattle.xds_cache.specs.Deliveries.{sotw_stated, sotw_delivery, delta_delivery, fault_in}
use Rattle.xds_world.specs.Knows.{TypedWrite}
use Rattle.xds_world.proofs.Replicas.{if_some, if_both}
use Rattle.xds_world.proofs.Delivering as delivering
pub use Rattle.xds_world.proofs.Delivering.{whole_at}
use Rattle.xds_world.proofs.Delivering.{IsKnown, AllKnown, canonical_is, stated_present}
use Rattle.xds_world.proofs.LinkSteps.{sending_facts}
use Rattle.xds_world.proofs.SotwDelivering as sotw_delivering
use Rattle.xds_world.proofs.SotwDelivering.{offered_is}
use Rattle.xds_message.proofs.StampedWriteLemmas.{from_value-canonical}
use Rattle.xds_ledger.proofs.SomethingOwed.{is_some_of}
use Rattle.xds_world.proofs.Lanes.{delivery}
use Rattle.xds_world.proofs.LaneSteps.{one_of_both}
use Rattle.xds_world.proofs.SettlingSessions.{never_both}

-- ---- one resource

no_reason : (a b c : Bool) (x y z : List ℕ) → a ≡ false → b ≡ false → c ≡ false → first_reason ((a, x) ∷ (b, y) ∷ (c, z) ∷ []) ≡ None
no_reason true b c x y z first second third = absurd cc
no_reason false true c x y z first second third = absurd cc
no_reason false false true x y z first second third = absurd cc
no_reason false false false x y z first second third = refl

-- that this is the live resource of a name
pub record IsOf (all : List TypedWrite) (t : TypeName) (m : Entries) (r : StatedResource) (n : List ℕ) : Type 0 where
  pub write : StampedWrite
  pub body : List ℕ
  pub found : finmap.get m n ≡ Some write
  pub known : IsKnown all t n write
  pub puts : write.body ≡ Some body
  pub resource : r.resource ≡ value_of body
  pub named : is_misnamed r.named n ≡ false

canonical_of : (all : List TypedWrite) (t : TypeName) (m : Entries) (r : StatedResource) (n : List ℕ) → (of : IsOf all t m r n) → IsCanonical t (record { name = n; body = of.body })
canonical_of all t m r n of = subst (λ x. IsCanonical t (record { name = x; body = of.body })) of.known.named (of.known.canonical of.body of.puts)

name_of : (all : List TypedWrite) (t : TypeName) (m : Entries) (r : StatedResource) (n : List ℕ) → IsOf all t m r n → (resource_of t r.resource).name ≡ n
name_of all t m r n of = ap (λ d. (resource_of t d).name) of.resource ∙ ap (λ (x : NamedBody). x.name) (canonical_is t (record { name = n; body = of.body }) (canonical_of all t m r n of))

-- a resource that the test takes isn't at fault, where its name is new
faultless : (all : List TypedWrite) (t : TypeName) (test : Test) (removed : Wants) (before : Cache) (m : Entries) (r : StatedResource) (n : List ℕ) → (of : IsOf all t m r n) → finmap.contains_key before n ≡ false → finmap.contains_key removed n ≡ false
    → test (row t).url n (value_of of.body) ≡ true → fault_of t test removed before r ≡ None
faultless all t test removed before m r n of fresh stays takes =
    ap (fault_by t test removed before r) (ap (from_value t) of.resource ∙ from_value-canonical t (record { name = n; body = of.body }) (canonical_of all t m r n of))
    ∙ no_reason (is_misnamed r.named n) (finmap.contains_key before n || finmap.contains_key removed n) (not (test (row t).url n r.resource)) _ _ _ of.named (λ i. fresh i || stays i) (ap not (ap (test (row t).url n) of.resource ∙ takes))

decided : (all : List TypedWrite) (t : TypeName) (test : Test) (removed : Wants) (before : Cache) (m : Entries) (r : StatedResource) (n : List ℕ) → (of : IsOf all t m r n) → finmap.contains_key before n ≡ false → finmap.contains_key removed n ≡ false
    → (test (row t).url n (value_of of.body) ≡ false) ⊎ (fault_of t test removed before r ≡ None)
decided all t test removed before m r n of fresh stays = by_test (test (row t).url n (value_of of.body)) refl
  where
    by_test : (b : Bool) → test (row t).url n (value_of of.body) ≡ b → (test (row t).url n (value_of of.body) ≡ false) ⊎ (fault_of t test removed before r ≡ None)
    by_test true takes = inr (faultless all t test removed before m r n of fresh stays takes)
    by_test false refuses = inl refuses

-- ---- the resources of a response

-- that these are the live resources of these names, each its own
abbrev pub Lists : List TypedWrite → TypeName → Entries → List StatedResource → List (List ℕ) → Type 0
Lists all t m [] [] = ⊤
Lists all t m [] (n ∷ ns) = ⊥
Lists all t m (r ∷ rs) [] = ⊥
Lists all t m (r ∷ rs) (n ∷ ns) = IsOf all t m r n × (has_text ns n ≡ false) × Lists all t m rs ns

-- one of these names whose resource is refused
pub record Blamed (all : List TypedWrite) (test : Test) (t : TypeName) (m : Entries) (ns : List (List ℕ)) : Type 0 where
  pub name : List ℕ
  pub write : StampedWrite
  pub body : List ℕ
  pub among : has_text ns name ≡ true
  pub found : finmap.get m name ≡ Some write
  pub known : IsKnown all t name write
  pub puts : write.body ≡ Some body
  pub refused : test (row t).url name (value_of body) ≡ false

later_is_other : (ns : List (List ℕ)) (n q : List ℕ) (same : Bool) → bytes_eq n q ≡ same → has_text ns n ≡ false → has_text ns q ≡ true → bytes_eq n q ≡ false
later_is_other ns n q true is absent has = absurd (never_both (has_text ns q) has (sym (ap (has_text ns) (bytes_eq_tells n q is)) ∙ absent))
later_is_other ns n q false is absent has = is

-- what isn't stated yet is not, once the one before it is
still_new : (all : List TypedWrite) (t : TypeName) (before : Cache) (m : Entries) (r : StatedResource) (n q : List ℕ) (ns : List (List ℕ)) → IsOf all t m r n → has_text ns n ≡ false → has_text ns q ≡ true → finmap.contains_key before q ≡ false
    → finmap.contains_key (and_stated t before r) q ≡ false
still_new all t before m r n q ns of absent has fresh =
    ap (λ x. is_some (finmap.get (finmap.insert before x (holding_of t r)) q)) (name_of all t m r n of)
    ∙ ap is_some (get-insert before n (holding_of t r) q ∙ ap (λ b. cond b (Some (holding_of t r)) (finmap.get before q)) (later_is_other ns n q (bytes_eq n q) refl absent has)) ∙ fresh

-- where a response of these is rejected, one of them is refused
pub first_blamed : (all : List TypedWrite) (test : Test) (t : TypeName) (m : Entries) (removed : Wants) (rs : List StatedResource) (ns : List (List ℕ)) (before : Cache) → Lists all t m rs ns → ((q : List ℕ) → has_text ns q ≡ true → finmap.contains_key before q ≡ false)
    → ((q : List ℕ) → has_text ns q ≡ true → finmap.contains_key removed q ≡ false) → is_some (first_fault t test removed before rs) ≡ true → Blamed all test t m ns
first_blamed all test t m removed [] ns before lists fresh stays at_fault = absurd cc
first_blamed all test t m removed (r ∷ rs) [] before lists fresh stays at_fault = absurd lists
first_blamed all test t m removed (r ∷ rs) (n ∷ ns) before lists fresh stays at_fault =
    let of = lists.0 in
    let here : has_text (n ∷ ns) n ≡ true = ap (λ b. b || has_text ns n) (bytes_eq_same n) in
    elim (decided all t test removed before m r n of (fresh n here) (stays n here)) [
      | inl refused ↦ record { name = n; write = of.write; body = of.body; among = here; found = of.found; known = of.known; puts = of.puts; refused = refused }
      | inr none ↦
          (let rest = first_blamed all test t m removed rs ns (and_stated t before r) lists.2
          (λ q has. still_new all t before m r n q ns of lists.1 has (fresh q (or_right (bytes_eq q n) (has_text ns q) has)))
          (λ q has. stays q (or_right (bytes_eq q n) (has_text ns q) has))
          (ap (λ f. is_some (option_or f (first_fault t test removed (and_stated t before r) rs))) (sym none) ∙ at_fault) in
          record { name = rest.name; write = rest.write; body = rest.body; among = or_right (bytes_eq rest.name n) (has_text ns rest.name) rest.among; found = rest.found; known = rest.known; puts = rest.puts; refused = rest.refused })
    ]

-- ---- the names that a response lists

-- that these resources are those of some of these names, of each of which something holds
pub record Listed (all : List TypedWrite) (t : TypeName) (m : Entries) (P : List ℕ → Type 0) (keys : List (List ℕ)) (rs : List StatedResource) : Type 0 where
  pub names : List (List ℕ)
  pub lists : Lists all t m rs names
  pub within : (q : List ℕ) → has_text names q ≡ true → has_text keys q ≡ true
  pub holds : (q : List ℕ) → has_text names q ≡ true → P q

listed_none : (all : List TypedWrite) (t : TypeName) (m : Entries) (P : List ℕ → Type 0) → Listed all t m P [] []
listed_none all t m P = record { names = []; lists = tt; within = λ q is. is; holds = λ q is. absurd cc }

listed_skip : (all : List TypedWrite) (t : TypeName) (m : Entries) (P : List ℕ → Type 0) (k : List ℕ) (keys : List (List ℕ)) (rs : List StatedResource) → Listed all t m P keys rs → Listed all t m P (k ∷ keys) rs
listed_skip all t m P k keys rs is = record { names = is.names; lists = is.lists; within = λ q has. or_right (bytes_eq q k) (has_text keys q) (is.within q has); holds = is.holds }

absent_in : (ns keys : List (List ℕ)) (n : List ℕ) (b : Bool) → has_text ns n ≡ b → (has_text ns n ≡ true → has_text keys n ≡ true) → has_text keys n ≡ false → has_text ns n ≡ false
absent_in ns keys n true is within absent = absurd (never_both (has_text keys n) (within is) absent)
absent_in ns keys n false is within absent = is

first_or_later : (P : List ℕ → Type 0) (q n : List ℕ) (rest same : Bool) → bytes_eq q n ≡ same → (bytes_eq q n || rest) ≡ true → P n → (rest ≡ true → P q) → P q
first_or_later P q n rest true is has here later = subst P (sym (bytes_eq_tells q n is)) here
first_or_later P q n rest false is has here later = later (ap (λ b. b || rest) (sym is) ∙ has)

either_key : (q n : List ℕ) (rest keys same : Bool) → bytes_eq q n ≡ same → (bytes_eq q n || rest) ≡ true → (rest ≡ true → keys ≡ true) → (bytes_eq q n || keys) ≡ true
either_key q n rest keys true is has later = ap (λ b. b || keys) is
either_key q n rest keys false is has later = ap (λ b. b || keys) is ∙ later (ap (λ b. b || rest) (sym is) ∙ has)

listed_add : (all : List TypedWrite) (t : TypeName) (m : Entries) (P : List ℕ → Type 0) (n : List ℕ) (keys : List (List ℕ)) (r : StatedResource) (rs : List StatedResource) → IsOf all t m r n → has_text keys n ≡ false → P n → Listed all t m P keys rs
    → Listed all t m P (n ∷ keys) (r ∷ rs)
listed_add all t m P n keys r rs of absent here is = record {
  names = n ∷ is.names;
  lists = (of, absent_in is.names keys n (has_text is.names n) refl (is.within n) absent, is.lists);
  within = λ q has. either_key q n (has_text is.names q) (has_text keys q) (bytes_eq q n) refl has (is.within q);
  holds = λ q has. first_or_later P q n (has_text is.names q) (bytes_eq q n) refl has here (is.holds q);
}

-- a key below all others is none of them
below_none : {X : Type 0} (k : List ℕ) (es : List (List ℕ × X)) → T (below_all text_cmp k es) → has_text (map (λ e. e.0) es) k ≡ false
below_none k [] below = refl
below_none k (e ∷ es) below =
    let first : bytes_eq k e.0 ≡ false = sym (is_eq-slice_cmp k e.0) ∙ less_is_no_tie (text_cmp k e.0) (holds_first (is_lt (text_cmp k e.0)) (below_all text_cmp k es) below) in
    (λ i. first i || below_none k es (holds_second (is_lt (text_cmp k e.0)) (below_all text_cmp k es) below) i)

-- ---- of an incremental response

delta_body : (all : List TypedWrite) (t : TypeName) (m : Entries) (P : List ℕ → Type 0) (n : List ℕ) (keys ns : List (List ℕ)) (w : StampedWrite) (b : Option (List ℕ)) → w.body ≡ b → finmap.get m n ≡ Some w → IsKnown all t n w → has_text keys n ≡ false → P n
    → Listed all t m P keys (delivering.listed m ns) → Listed all t m P (n ∷ keys) (delivering.with_first (option_map (λ body. record { name = w.name; version = version_of w; body = body }) b) m ns)
delta_body all t m P n keys ns w None puts found known absent here rest = listed_skip all t m P n keys (delivering.listed m ns) rest
delta_body all t m P n keys ns w (Some body) puts found known absent here rest =
    listed_add all t m P n keys (record { named = Some w.name; version = version_of w; resource = value_of body }) (delivering.listed m ns)
    (record { write = w; body = body; found = found; known = known; puts = puts; resource = refl; named = ap not (ap (λ x. bytes_eq x n) known.named ∙ bytes_eq_same n) }) absent here rest

delta_name : (all : List TypedWrite) (t : TypeName) (m : Entries) (P : List ℕ → Type 0) (n : List ℕ) (keys ns : List (List ℕ)) (o : Option StampedWrite) → finmap.get m n ≡ o → AllKnown all t m → has_text keys n ≡ false → P n → Listed all t m P keys (delivering.listed m ns)
    → Listed all t m P (n ∷ keys) (delivering.with_first (option_and_then drafted_of o) m ns)
delta_name all t m P n keys ns None found known absent here rest = listed_skip all t m P n keys (delivering.listed m ns) rest
delta_name all t m P n keys ns (Some w) found known absent here rest = delta_body all t m P n keys ns w w.body refl found (known n w found) absent here rest

abbrev States : Offer → List ℕ → Type 0
States o q = option_map_or is_statement (finmap.get o q) false ≡ true

delta_entry : (all : List TypedWrite) (t : TypeName) (m : Entries) (o : Offer) (e : List ℕ × Due) (es fs : List (List ℕ × Due)) (says : Bool) → is_statement e.1 ≡ says → finmap.get o e.0 ≡ Some e.1 → AllKnown all t m → has_text (map (λ x. x.0) es) e.0 ≡ false
    → Listed all t m (States o) (map (λ x. x.0) es) (delivering.listed m (map (λ x. x.0) fs)) → Listed all t m (States o) (map (λ x. x.0) (e ∷ es)) (delivering.listed m (map (λ x. x.0) (if says then e ∷ fs else fs)))
delta_entry all t m o e es fs true says found known absent rest =
    delta_name all t m (States o) e.0 (map (λ x. x.0) es) (map (λ x. x.0) fs) (finmap.get m e.0) refl known absent (ap (λ x. option_map_or is_statement x false) found ∙ says) rest
delta_entry all t m o e es fs false says found known absent rest = listed_skip all t m (States o) e.0 (map (λ x. x.0) es) (delivering.listed m (map (λ x. x.0) fs)) rest

delta_listed : (all : List TypedWrite) (t : TypeName) (m : Entries) (o : Offer) (es : List (List ℕ × Due)) → AllKnown all t m → T (is_sorted text_cmp es) → EachFound o es
    → Listed all t m (States o) (map (λ x. x.0) es) (delivering.listed m (map (λ x. x.0) (filter (λ x. is_statement x.1) es)))
delta_listed all t m o [] known sorted found = listed_none all t m (States o)
delta_listed all t m o (e ∷ es) known sorted found =
    delta_entry all t m o e es (filter (λ x. is_statement x.1) es) (is_statement e.1) refl found.0 known (below_none e.0 es (holds_first (below_all text_cmp e.0 es) (is_sorted text_cmp es) sorted))
    (delta_listed all t m o es known (holds_second (below_all text_cmp e.0 es) (is_sorted text_cmp es) sorted) found.1)

-- ---- of a response of the state of the world

abbrev Offers : Offer → List ℕ → Type 0
Offers o q = is_some (finmap.get o q) ≡ true

sotw_body : (all : List TypedWrite) (t : TypeName) (m : Entries) (P : List ℕ → Type 0) (n : List ℕ) (keys : List (List ℕ)) (w : StampedWrite) (ws : List StampedWrite) (b : Option (List ℕ)) → w.body ≡ b → finmap.get m n ≡ Some w → IsKnown all t n w → has_text keys n ≡ false → P n
    → Listed all t m P keys (sotw_delivering.listed ws) → Listed all t m P (n ∷ keys) (map sotw_stated (map value_of (cons_option b (filter_map (λ x. x.body) ws))))
sotw_body all t m P n keys w ws None puts found known absent here rest = listed_skip all t m P n keys (sotw_delivering.listed ws) rest
sotw_body all t m P n keys w ws (Some body) puts found known absent here rest =
    listed_add all t m P n keys (record { named = None; version = []; resource = value_of body }) (sotw_delivering.listed ws)
    (record { write = w; body = body; found = found; known = known; puts = puts; resource = refl; named = refl }) absent here rest

sotw_entry : (all : List TypedWrite) (t : TypeName) (m : Entries) (P : List ℕ → Type 0) (n : List ℕ) (keys : List (List ℕ)) (w : StampedWrite) (ws : List StampedWrite) (p : StampedWrite → Bool) (shown picked : Bool) → p w ≡ picked → (shown ≡ true → picked ≡ true → P n) → finmap.get m n ≡ Some w
    → AllKnown all t m → has_text keys n ≡ false → Listed all t m P keys (sotw_delivering.listed (filter p ws)) → Listed all t m P (n ∷ keys) (sotw_delivering.listed (filter p (if shown then w ∷ ws else ws)))
sotw_entry all t m P n keys w ws p false picked is says found known absent rest = listed_skip all t m P n keys (sotw_delivering.listed (filter p ws)) rest
sotw_entry all t m P n keys w ws p true true is says found known absent rest =
    subst (λ b. Listed all t m P (n ∷ keys) (sotw_delivering.listed (if b then w ∷ filter p ws else filter p ws))) (sym is)
    (sotw_body all t m P n keys w (filter p ws) w.body refl found (known n w found) absent (says refl refl) rest)
sotw_entry all t m P n keys w ws p true false is says found known absent rest =
    subst (λ b. Listed all t m P (n ∷ keys) (sotw_delivering.listed (if b then w ∷ filter p ws else filter p ws))) (sym is) (listed_skip all t m P n keys (sotw_delivering.listed (filter p ws)) rest)

-- of the writes that are shown, those that p picks are those of names of which P holds
pub sotw_listed : (all : List TypedWrite) (t : TypeName) (m : Entries) (s : Selection) (p : StampedWrite → Bool) (P : List ℕ → Type 0) (es : List (List ℕ × StampedWrite)) → ((n : List ℕ) (w : StampedWrite) → finmap.get m n ≡ Some w → is_shown s w ≡ true → p w ≡ true → P n) → AllKnown all t m
    → T (is_sorted text_cmp es) → EachFound m es → Listed all t m P (map (λ x. x.0) es) (sotw_delivering.listed (filter p (filter (is_shown s) (map (λ x. x.1) es))))
sotw_listed all t m s p P [] says known sorted found = listed_none all t m P
sotw_listed all t m s p P (e ∷ es) says known sorted found =
    sotw_entry all t m P e.0 (map (λ x. x.0) es) e.1 (filter (is_shown s) (map (λ x. x.1) es)) p (is_shown s e.1) (p e.1) refl (says e.0 e.1 found.0) found.0 known (below_none e.0 es (holds_first (below_all text_cmp e.0 es) (is_sorted text_cmp es) sorted))
    (sotw_listed all t m s p P es says known (holds_second (below_all text_cmp e.0 es) (is_sorted text_cmp es) sorted) found.1)

-- ---- what an offer states is present

pub present_version : (s : Selection) (m : Entries) (q version : List ℕ) (w : StampedWrite) → finmap.get m q ≡ Some w → present s m q ≡ Some version → (covers s q w.groups ≡ true) × (is_some w.body ≡ true) × (version_of w ≡ version)
present_version s m q version w found is =
    let shown = if_both (covers s q w.groups) (live_version w) version (sym (ap (option_and_then (version_shown s q)) found) ∙ is) in
    let body = if_some (is_some w.body) (version_of w) version shown.1 in (shown.0, body.0, sym body.1)

-- ---- what is to be blamed

-- an offer states a version whose write puts what is refused
pub record IsBlamed (all : List TypedWrite) (test : Test) (t : TypeName) (o : Offer) : Type 0 where
  pub name : List ℕ
  pub version : List ℕ
  pub write : StampedWrite
  pub body : List ℕ
  pub states : finmap.get o name ≡ Some (Stated version)
  pub made : Contains all (t, write)
  pub is_at : version_of write ≡ version
  pub puts : write.body ≡ Some body
  pub refused : test (row t).url name (value_of body) ≡ false

blamed_at : (v : VariantName) (all : List TypedWrite) (test : Test) (t : TypeName) (s : Selection) (m : Entries) (b : Beliefs) (ns : List (List ℕ)) → (blamed : Blamed all test t m ns) → (version : List ℕ) → finmap.get (offer v t s m b) blamed.name ≡ Some (Stated version)
    → IsBlamed all test t (offer v t s m b)
blamed_at v all test t s m b ns blamed version states =
    let here = present_version s m blamed.name version blamed.write blamed.found (stated_present v t s m b blamed.name version states) in
    record { name = blamed.name; version = version; write = blamed.write; body = blamed.body; states = states; made = blamed.known.made; is_at = here.2; puts = blamed.puts; refused = blamed.refused }

statement_is : (x : Option Due) → option_map_or is_statement x false ≡ true → (version : List ℕ) × (x ≡ Some (Stated version))
statement_is None is = absurd cc
statement_is (Some (Stated version)) is = (version, refl)
statement_is (Some Removed) is = absurd cc

not_twice : (x : Option Due) → option_map_or is_statement x false ≡ true → option_map_or is_removal x false ≡ true → ⊥
not_twice None states removes = absurd cc
not_twice (Some (Stated version)) states removes = absurd cc
not_twice (Some Removed) states removes = absurd cc

removed_entry : (o : Offer) (q : List ℕ) (e : List ℕ × Due) (fs : List (List ℕ × Due)) (says : Bool) → is_removal e.1 ≡ says → finmap.get o e.0 ≡ Some e.1 → (has_text (map (λ x. x.0) fs) q ≡ true → option_map_or is_removal (finmap.get o q) false ≡ true)
    → has_text (map (λ x. x.0) (if says then e ∷ fs else fs)) q ≡ true → option_map_or is_removal (finmap.get o q) false ≡ true
removed_entry o q e fs false says found later has = later has
removed_entry o q e fs true says found later has =
    elim (one_of_both (bytes_eq q e.0) (has_text (map (λ x. x.0) fs) q) has) [
      | inl same ↦ ap (λ n. option_map_or is_removal (finmap.get o n) false) (bytes_eq_tells q e.0 same) ∙ ap (λ x. option_map_or is_removal x false) found ∙ says
      | inr rest ↦ later rest
    ]

removed_names : (o : Offer) (q : List ℕ) (es : List (List ℕ × Due)) → EachFound o es → has_text (map (λ x. x.0) (filter (λ x. is_removal x.1) es)) q ≡ true → option_map_or is_removal (finmap.get o q) false ≡ true
removed_names o q [] found has = absurd cc
removed_names o q (e ∷ es) found has = removed_entry o q e (filter (λ x. is_removal x.1) es) (is_removal e.1) refl found.0 (removed_names o q es found.1) has

unremoved : (o : Offer) (q : List ℕ) (b : Bool) → has_text (names_where is_removal o) q ≡ b → States o q → finmap.contains_key (wants_of (names_where is_removal o)) q ≡ false
unremoved o q true is states = absurd (not_twice (finmap.get o q) states (removed_names o q (finmap.entries o) (each_found o) is))
unremoved o q false is states = ap is_some (get-tabulate marked (names_where is_removal o) q ∙ ap (λ b. cond b (marked q) None) is)

-- ---- a response

delta_blamed : (all : List TypedWrite) (test : Test) (t : TypeName) (replica : ℕ) (h : Holdings) (s : Selection) (b : Beliefs) (number : ℕ) → AllKnown all t h.entries → let o = offer variants.Delta t s h.entries b in
    is_some (fault_in t test (delta_delivery (delta_message_of (delta.response replica t h o number)))) ≡ true → IsBlamed all test t o
delta_blamed all test t replica h s b number known at_fault =
    let o : Offer = offer variants.Delta t s h.entries b in
    let listed = delta_listed all t h.entries o (finmap.entries o) known (finmap.entries_sorted o) (each_found o) in
    let blamed =
    first_blamed all test t h.entries (wants_of (names_where is_removal o)) (delivering.listed h.entries (names_where is_statement o)) listed.names finmap.empty listed.lists (λ q has. ap is_some (finmap.get-empty text_cmp q))
    (λ q has. unremoved o q (has_text (names_where is_removal o) q) refl (listed.holds q has)) at_fault in
    let states = statement_is (finmap.get o blamed.name) (listed.holds blamed.name blamed.among) in blamed_at variants.Delta all test t s h.entries b listed.names blamed states.0 states.1

sotw_blamed : (all : List TypedWrite) (test : Test) (t : TypeName) (replica : ℕ) (h : Holdings) (s : Selection) (b : Beliefs) (number : ℕ) → AllKnown all t h.entries → let o = offer variants.StateOfTheWorld t s h.entries b in
    is_some (fault_in t test (sotw_delivery t (message_of (sotw.response replica t h s o number)))) ≡ true → IsBlamed all test t o
sotw_blamed all test t replica h s b number known at_fault =
    let o : Offer = offer variants.StateOfTheWorld t s h.entries b in
    let listed = sotw_listed all t h.entries s (λ w. is_some (finmap.get o w.name)) (Offers o) (finmap.entries h.entries) (λ n w found shown picked. ap (λ x. is_some (finmap.get o x)) (sym (known n w found).named) ∙ picked) known (finmap.entries_sorted h.entries) (each_found h.entries) in
    let blamed =
    first_blamed all test t h.entries finmap.empty (sotw_delivering.listed (sotw.stated_writes h.entries s o)) listed.names finmap.empty listed.lists (λ q has. ap is_some (finmap.get-empty text_cmp q))
    (λ q has. ap is_some (finmap.get-empty text_cmp q)) at_fault in
    let says = is_some_of (finmap.get o blamed.name) (listed.holds blamed.name blamed.among) in
    let states = offered_is t s h.entries b blamed.name says.0 says.1 in blamed_at variants.StateOfTheWorld all test t s h.entries b listed.names blamed states.0 (says.1 ∙ ap Some states.1)

pub sent_blamed : (v : VariantName) (all : List TypedWrite) (test : Test) (t : TypeName) (replica : ℕ) (store : Store) (ss : PerType Session) (o : Offer) (number : ℕ) → AllKnown all t (at store t).entries → sessions.sending v t (at ss t) (at store t).entries ≡ Some o
    → is_some (fault_in t test (delivery t (response_of replica store ss t o number v))) ≡ true → IsBlamed all test t o
sent_blamed v all test t replica store ss o number known due at_fault =
    let same : o ≡ offer v t (at ss t).asked.interest (at store t).entries (at ss t).account.beliefs = (sending_facts v t (at ss t) (at store t).entries o due).2 in
    subst (IsBlamed all test t) (sym same) (by_variant v (subst (λ x. is_some (fault_in t test (delivery t (response_of replica store ss t x number v))) ≡ true) same at_fault))
  where
    by_variant : (k : VariantName) → let x = offer k t (at ss t).asked.interest (at store t).entries (at ss t).account.beliefs in is_some (fault_in t test (delivery t (response_of replica store ss t x number k))) ≡ true → IsBlamed all test t x
    by_variant variants.StateOfTheWorld is = sotw_blamed all test t replica (at store t) (at ss t).asked.interest (at ss t).account.beliefs number known is
    by_variant variants.Delta is = delta_blamed all test t replica (at store t) (at ss t).asked.interest (at ss t).account.beliefs number known is
