-- That a change made in place leaves what a response says, and that what was added is taken out again.
use Rattle.std.proofs.Common.{◌≡◌, ℕ, suc, ◌+◌, ◌<◌, List, [], ◌∷◌, length, take, drop, Bor, Bool, true, false, cond, ◌||◌, ◌&&◌, not, Option, Some, None, refl, sym, ap, subst, ◌∙◌}
use Rattle.std.proofs.Math.ListN.{get_or}
use Rattle.std.proofs.Math.Seq.{drop-cons, split_at}
use Rattle.std.proofs.Math.Numerals.{suc-eq-add-one}
use Rattle.std.specs.Prelude.{bytes_eq, is_some, if◌then◌else◌}
use Rattle.std.specs.Option.{option_or}
use Rattle.std.specs.FinMap as finmap
use Rattle.xds_resource.specs.declared.types.TypeName.{TypeName}
use Rattle.xds_resource.specs.Names.{put_some, put_each}
use Rattle.xds_resource.proofs.NameMaps.{has_text, same_names, get-insert, get-remove, bytes_eq_tells, bytes_eq_swap, has_text-keys, cond_same, removed_step, added_step, texts_of, listed_behind, filtered}
use Rattle.xds_resource.proofs.MadeMaps.{get-put_each}
use Rattle.xds_cache.specs.Shelves.{Wants, Holding, Cache, is_wanted, kept_of}
use Rattle.xds_cache.specs.Deliveries.{shown, cache_after}
use Rattle.xds_cache.specs.InPlace.{HoldsWanted, IsPruned, is_new, new_names, removed_all, cleared, cleared_all, stored, stored_all}
use Rattle.xds_cache.proofs.Making.{get-cache_after, get-kept_of}

-- ---- what was added is taken out again

get-removed_all : (held : Cache) (ns : List (List ℕ)) (q : List ℕ) → finmap.get (removed_all held ns) q ≡ cond (has_text ns q) None (finmap.get held q)
get-removed_all held [] q = refl
get-removed_all held (n ∷ ns) q =
    get-removed_all (finmap.remove held n) ns q ∙ ap (cond (has_text ns q) None) (get-remove held n q) ∙ removed_step (bytes_eq n q) (has_text ns q) (finmap.get held q)
    ∙ ap (λ x. cond (x || has_text ns q) None (finmap.get held q)) (bytes_eq_swap n q)

removed_added : (held : Cache) (ns : List (List ℕ)) (n : List ℕ) (o : Option Holding) → has_text ns n ≡ true → removed_all (put_some held n o) ns ≡ removed_all held ns
removed_added held ns n None listed = refl
removed_added held ns n (Some h) listed =
    same_names _ _ (λ q. get-removed_all (finmap.insert held n h) ns q ∙ ap (cond (has_text ns q) None) (get-insert held n h q)
    ∙ added_step (has_text ns q) (bytes_eq n q) (Some h) (finmap.get held q) (λ same. sym (ap (has_text ns) (bytes_eq_tells n q same)) ∙ listed) ∙ sym (get-removed_all held ns q))

abbrev added : Cache → Cache → List (Bor (List ℕ)) → Cache
added stated held ns = put_each (finmap.get stated) held (texts_of ns)

-- once one more of some names was added
pub added_next : (stated now start after : Cache) (ns : List (Bor (List ℕ))) (i : ℕ) (d : Bor (List ℕ)) → i < length ns → after ≡ put_some now (get_or ns i d).now (finmap.get stated (get_or ns i d).now)
    → (added stated now (drop i ns) ≡ added stated start ns) × (removed_all now (texts_of ns) ≡ start) → (added stated after (drop (i + 1) ns) ≡ added stated start ns) × (removed_all after (texts_of ns) ≡ start)
added_next stated now start after ns i d there is before =
    let x : Bor (List ℕ) = get_or ns i d in (
      (λ j. added stated (is j) (drop (sym (suc-eq-add-one i) j) ns)) ∙ sym (ap (added stated now) (drop-cons ns i d there)) ∙ before.0,
      ap (λ (m : Cache). removed_all m (texts_of ns)) is ∙ removed_added now (texts_of ns) x.now (finmap.get stated x.now) (ap (λ l. has_text (texts_of l) x.now) (split_at ns i d there) ∙ listed_behind (take i ns) x (drop (suc i) ns)) ∙ before.1,
    )

-- ---- which names are new

new_absent : (listed wanted : Bool) (old : Option Holding) → cond (listed && (wanted && not (is_some old))) None old ≡ old
new_absent true true None = refl
new_absent true true (Some h) = refl
new_absent true false old = refl
new_absent false wanted old = refl

-- nothing is held of new names
pub new_names_are_absent : (t : TypeName) (w : Wants) (held : Cache) (names : List (List ℕ)) → removed_all held (new_names t w held names) ≡ held
new_names_are_absent t w held names =
    same_names _ _ (λ q. get-removed_all held (new_names t w held names) q
    ∙ ap (λ x. cond x None (finmap.get held q)) (filtered (is_new t w held) names q)
    ∙ new_absent (has_text names q) (is_wanted t w q) (finmap.get held q))

-- ---- what is cleared

cleared_at : (held : Cache) (n q : List ℕ) (at_n at_q here : Bool) → bytes_eq n q ≡ here → (here ≡ true → at_n ≡ at_q)
    → finmap.get (if at_n then held else finmap.remove held n) q ≡ cond (here && not at_q) None (finmap.get held q)
cleared_at held n q true at_q true is same = ap (λ b. cond (true && not b) None (finmap.get held q)) (same refl)
cleared_at held n q true at_q false is same = refl
cleared_at held n q false at_q true is same = get-remove held n q ∙ ap (λ b. cond b None (finmap.get held q)) is ∙ ap (λ b. cond (true && not b) None (finmap.get held q)) (same refl)
cleared_at held n q false at_q false is same = get-remove held n q ∙ ap (λ b. cond b None (finmap.get held q)) is

get-cleared : (stated held : Cache) (n q : List ℕ) → finmap.get (cleared stated held n) q ≡ cond (bytes_eq n q && not (is_some (finmap.get stated q))) None (finmap.get held q)
get-cleared stated held n q =
    cleared_at held n q (is_some (finmap.get stated n)) (is_some (finmap.get stated q)) (bytes_eq n q) refl (λ same. ap (λ x. is_some (finmap.get stated x)) (bytes_eq_tells n q same))

cleared_step : {X : Type 0} (here later unstated : Bool) (o : Option X) → cond (later && unstated) None (cond (here && unstated) None o) ≡ cond ((here || later) && unstated) None o
cleared_step true later true o = cond_same (later && true) None
cleared_step true true false o = refl
cleared_step true false false o = refl
cleared_step false later unstated o = refl

get-cleared_all : (stated held : Cache) (ns : List (List ℕ)) (q : List ℕ)
    → finmap.get (cleared_all stated held ns) q ≡ cond (has_text ns q && not (is_some (finmap.get stated q))) None (finmap.get held q)
get-cleared_all stated held [] q = refl
get-cleared_all stated held (n ∷ ns) q =
    let unstated : Bool = not (is_some (finmap.get stated q)) in
    get-cleared_all stated (cleared stated held n) ns q ∙ ap (cond (has_text ns q && unstated) None) (get-cleared stated held n q)
    ∙ cleared_step (bytes_eq n q) (has_text ns q) unstated (finmap.get held q)
    ∙ ap (λ x. cond ((x || has_text ns q) && unstated) None (finmap.get held q)) (bytes_eq_swap n q)

-- ---- what is stored

-- what is stored at a name
abbrev stored_at : Option Holding → Option Holding → Option Holding
stored_at old None = old
stored_at old (Some h) = if is_some old then Some h else None

replaced_at : (held : Cache) (n : List ℕ) (h : Holding) (q : List ℕ) (old : Option Holding) (here : Bool) → finmap.get held n ≡ old → bytes_eq n q ≡ here
    → finmap.get (if is_some old then finmap.insert held n h else held) q ≡ cond here (if is_some (finmap.get held q) then Some h else None) (finmap.get held q)
replaced_at held n h q None true is same =
    let none = ap (finmap.get held) (sym (bytes_eq_tells n q same)) ∙ is in
    none ∙ sym (ap (λ o. if is_some o then Some h else None) none)
replaced_at held n h q None false is other = refl
replaced_at held n h q (Some x) true is same =
    get-insert held n h q ∙ ap (λ b. cond b (Some h) (finmap.get held q)) same
    ∙ sym (ap (λ o. if is_some o then Some h else None) (ap (finmap.get held) (sym (bytes_eq_tells n q same)) ∙ is))
replaced_at held n h q (Some x) false is other = get-insert held n h q ∙ ap (λ b. cond b (Some h) (finmap.get held q)) other

get-stored : (held : Cache) (n : List ℕ) (o : Option Holding) (q : List ℕ) → finmap.get (stored held n o) q ≡ cond (bytes_eq n q) (stored_at (finmap.get held q) o) (finmap.get held q)
get-stored held n None q = sym (cond_same (bytes_eq n q) (finmap.get held q))
get-stored held n (Some h) q = replaced_at held n h q (finmap.get held n) (bytes_eq n q) refl refl

stored_step : (here later : Bool) (old first o : Option Holding) → (here ≡ true → first ≡ o)
    → cond later (stored_at (cond here (stored_at old first) old) (cond here None o)) (cond here (stored_at old first) old) ≡ cond (here || later) (stored_at old o) old
stored_step true later old first o is = cond_same later (stored_at old first) ∙ ap (stored_at old) (is refl)
stored_step false later old first o is = refl

get-stored_all : (stated held : Cache) (ns : List (List ℕ)) (q : List ℕ)
    → finmap.get (stored_all stated held ns) q ≡ cond (has_text ns q) (stored_at (finmap.get held q) (finmap.get stated q)) (finmap.get held q)
get-stored_all stated held [] q = refl
get-stored_all stated held (n ∷ ns) q =
    get-stored_all (finmap.remove stated n) (stored held n (finmap.get stated n)) ns q
    ∙ (λ i. cond (has_text ns q) (stored_at (get-stored held n (finmap.get stated n) q i) (get-remove stated n q i)) (get-stored held n (finmap.get stated n) q i))
    ∙ stored_step (bytes_eq n q) (has_text ns q) (finmap.get held q) (finmap.get stated n) (finmap.get stated q) (λ same. ap (finmap.get stated) (bytes_eq_tells n q same))
    ∙ ap (λ x. cond (x || has_text ns q) (stored_at (finmap.get held q) (finmap.get stated q)) (finmap.get held q)) (bytes_eq_swap n q)

-- ---- all of it

-- what is held of a name once what is new was added, and once what is removed was cleared
abbrev with_new : Bool → Option Holding → Option Holding → Option Holding
with_new wanted stated old = cond (is_some stated && (wanted && not (is_some old))) (option_or stated old) old

abbrev left_of : Bool → Bool → Option Holding → Option Holding → Option Holding
left_of wanted gone stated old = cond (gone && not (is_some stated)) None (with_new wanted stated old)

all_parts : (wanted gone : Bool) (stated old : Option Holding) → (wanted ≡ false → old ≡ None)
    → cond (is_some stated) (stored_at (left_of wanted gone stated old) stated) (left_of wanted gone stated old) ≡ (if wanted then option_or stated (if false || gone then None else old) else None)
all_parts true true None old held = refl
all_parts true false None old held = refl
all_parts false true None old held = refl
all_parts false false None old held = held refl
all_parts true true (Some x) None held = refl
all_parts true true (Some x) (Some h) held = refl
all_parts true false (Some x) None held = refl
all_parts true false (Some x) (Some h) held = refl
all_parts false true (Some x) None held = refl
all_parts false false (Some x) None held = refl
all_parts false gone (Some x) (Some h) held = let none = held refl in absurd cc

pub changed_in_place : (t : TypeName) (w : Wants) (held : Cache) (removed : Wants) (stated : Cache) → HoldsWanted t w held
    → stored_all stated (cleared_all stated (put_each (finmap.get stated) held (new_names t w held (finmap.keys stated))) (finmap.keys removed)) (finmap.keys stated) ≡ cache_after t w false removed stated held
changed_in_place t w held removed stated wanted =
    let new = new_names t w held (finmap.keys stated) in
    let with_these : Cache = put_each (finmap.get stated) held new in
    let without : Cache = cleared_all stated with_these (finmap.keys removed) in
    same_names _ _ (λ q.
    let s : Option Holding = finmap.get stated q in
    let old : Option Holding = finmap.get held q in
    let added_here : finmap.get with_these q ≡ with_new (is_wanted t w q) s old =
    get-put_each (finmap.get stated) held new q
    ∙ ap (λ x. cond x (option_or s old) old) (filtered (is_new t w held) (finmap.keys stated) q ∙ ap (λ x. x && is_new t w held q) (has_text-keys stated q)) in
    let left_here : finmap.get without q ≡ left_of (is_wanted t w q) (finmap.contains_key removed q) s old =
    get-cleared_all stated with_these (finmap.keys removed) q
    ∙ (λ i. cond (has_text-keys removed q i && not (is_some s)) None (added_here i)) in
    get-stored_all stated without (finmap.keys stated) q
    ∙ (λ i. cond (has_text-keys stated q i) (stored_at (left_here i) s) (left_here i))
    ∙ all_parts (is_wanted t w q) (finmap.contains_key removed q) s old (wanted q)
    ∙ sym (get-cache_after t w false removed stated held q))

-- ---- nothing is held that isn't wanted

pub holds_wanted_after : (t : TypeName) (w : Wants) (whole : Bool) (removed : Wants) (stated held : Cache) → HoldsWanted t w (cache_after t w whole removed stated held)
holds_wanted_after t w whole removed stated held = λ name unwanted.
    get-cache_after t w whole removed stated held name ∙ ap (λ b. if b then shown whole removed (finmap.get stated name) (finmap.get held name) name else None) unwanted

pub holds_wanted_kept : (t : TypeName) (w : Wants) (held : Cache) → HoldsWanted t w (kept_of t w held)
holds_wanted_kept t w held = λ name unwanted. get-kept_of t w held name ∙ ap (λ b. if b then finmap.get held name else None) unwanted

pub pruned_as : (known : Option TypeName) (t : TypeName) (w : Wants) (held : Cache) → known ≡ Some t → IsPruned known w held → HoldsWanted t w held
pruned_as known t w held is pruned = subst (λ o. IsPruned o w held) is pruned
