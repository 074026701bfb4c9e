-- That what a response states is what is shown of each name that its offer speaks of.
use Rattle.std.proofs.Common.{◌≡◌, ◌⊎◌, inl, inr, ℕ, List, [], ◌∷◌, ◌++◌, map, Bool, true, false, cond, ◌&&◌, ◌||◌, Option, Some, None, refl, sym, ap, ◌∙◌, append-nil}
use Rattle.std.specs.Prelude.{T, is_some, if◌then◌else◌, IfSome}
use Rattle.std.specs.declared.cmp.Ordering.{Ordering}
use Rattle.std.specs.declared.cmp.Ordering.TheVariants.{Less, Equal, Greater}
use Rattle.std.specs.Ordering.{is_lt}
use Rattle.std.specs.List.{filter, filter_map, cons_option, AllByRecursion}
use Rattle.std.specs.Option.{option_and_then}
use Rattle.std.specs.FinMap as finmap
use Rattle.std.specs.FinMap.Entries.{below_all, is_sorted}
use Rattle.std.specs.FinSet as set
use Rattle.xds_resource.specs.Writes.{StampedWrite, text_cmp}
use Rattle.xds_resource.proofs.NameMaps.{has_text-keys}
use Rattle.xds_resource.proofs.BoolsAndLists.{holds_first, holds_second}
use Rattle.xds_interest.specs.Interests.{Selection, covers, is_open_to}
use Rattle.xds_interest.proofs.Texts.{contains-from_texts}
use Rattle.xds_message.specs.Drafts.{with_text}
use Rattle.xds_message.proofs.DraftLemmas.{texts_step}
use Rattle.xds_catalogue.specs.Holdings.{Entries, IsCatalogue}
use Rattle.xds_catalogue.specs.Content.{is_live, is_shown, content, if_live, live_at}
use Rattle.xds_catalogue.proofs.InOrder.{Ascend, content-names}
use Rattle.xds_ledger.specs.declared.entry.Due.{Due}
use Rattle.xds_ledger.specs.Offers.{Offer}
use Rattle.xds_sessions.specs.SotwPolls.{stated_bodies}
use Rattle.xds_sessions.specs.SotwParts.{body_at, pushed_each}
use Rattle.xds_sessions.proofs.SotwMade.{body_of}

-- ---- the names of an offer ascend

less_is : (o : Ordering) → T (is_lt o) → o ≡ Less
less_is Less h = refl
less_is Equal h = absurd h
less_is Greater h = absurd h

below_names : (k : List ℕ) (es : List (List ℕ × Due)) → T (below_all text_cmp k es) → AllByRecursion (λ y. text_cmp k y ≡ Less) (map (λ e. e.0) es)
below_names k [] h = tt
below_names k (e ∷ es) h = (
  less_is (text_cmp k e.0) (holds_first (is_lt (text_cmp k e.0)) (below_all text_cmp k es) h),
  below_names k es (holds_second (is_lt (text_cmp k e.0)) (below_all text_cmp k es) h),
)

names_ascend : (es : List (List ℕ × Due)) → T (is_sorted text_cmp es) → Ascend (map (λ e. e.0) es)
names_ascend [] h = tt
names_ascend (e ∷ es) h = (
  below_names e.0 es (holds_first (below_all text_cmp e.0 es) (is_sorted text_cmp es) h),
  names_ascend es (holds_second (below_all text_cmp e.0 es) (is_sorted text_cmp es) h),
)

-- ---- tests one after another

filter_step : (p q : StampedWrite → Bool) (w : StampedWrite) (ws : List StampedWrite) (a b : Bool) → q w ≡ a → p w ≡ b → filter p (filter q ws) ≡ filter (λ x. q x && p x) ws
    → filter p (cond a (w ∷ filter q ws) (filter q ws)) ≡ cond (a && b) (w ∷ filter (λ x. q x && p x) ws) (filter (λ x. q x && p x) ws)
filter_step p q w ws false b one two rest = rest
filter_step p q w ws true b one two rest = ap (λ x. cond x (w ∷ filter p (filter q ws)) (filter p (filter q ws))) two ∙ (λ i. cond b (w ∷ rest i) (rest i))

filter_twice : (p q : StampedWrite → Bool) (ws : List StampedWrite) → filter p (filter q ws) ≡ filter (λ x. q x && p x) ws
filter_twice p q [] = refl
filter_twice p q (w ∷ ws) =
    filter_step p q w ws (q w) (p w) refl refl (filter_twice p q ws)

filter_alike : (p q : StampedWrite → Bool) (ws : List StampedWrite) → ((w : StampedWrite) → p w ≡ q w) → filter p ws ≡ filter q ws
filter_alike p q [] same = refl
filter_alike p q (w ∷ ws) same = λ i. cond (same w i) (w ∷ filter_alike p q ws same i) (filter_alike p q ws same i)

-- ---- name by name

abbrev covered : Selection → StampedWrite → Bool
covered s w = covers s w.name w.groups

abbrev shown : Selection → List StampedWrite → List (List ℕ)
shown s ws = filter_map body_of (filter (covered s) ws)

live_step : (s : Selection) (n : List ℕ) (w : StampedWrite) (rest : List StampedWrite) (body : Option (List ℕ)) (c : Bool) → w.name ≡ n → w.body ≡ body → covers s n w.groups ≡ c
    → cons_option (if c then body else None) (shown s rest) ≡ shown s (cons_option (if is_some body then Some w else None) rest)
live_step s n w rest None true named has is = refl
live_step s n w rest None false named has is = refl
live_step s n w rest (Some text) true named has is =
    ap (λ o. cons_option o (shown s rest)) (sym has) ∙ ap (λ b. filter_map body_of (cond b (w ∷ filter (covered s) rest) (filter (covered s) rest))) (sym is ∙ ap (λ k. covers s k w.groups) (sym named))
live_step s n w rest (Some text) false named has is =
    ap (λ b. filter_map body_of (cond b (w ∷ filter (covered s) rest) (filter (covered s) rest))) (sym is ∙ ap (λ k. covers s k w.groups) (sym named))

at_name : (s : Selection) (n : List ℕ) (o : Option StampedWrite) (rest : List StampedWrite) → IfSome o (λ w. w.name ≡ n)
    → cons_option (option_and_then (λ w. if covers s n w.groups then w.body else None) o) (shown s rest) ≡ shown s (cons_option (option_and_then if_live o) rest)
at_name s n None rest named = refl
at_name s n (Some w) rest named = live_step s n w rest w.body (covers s n w.groups) named refl refl

by_names : (m : Entries) (s : Selection) (ns : List (List ℕ)) → IsCatalogue m → filter_map (body_at m s) ns ≡ shown s (filter_map (live_at m) ns)
by_names m s [] named = refl
by_names m s (n ∷ ns) named = ap (cons_option (body_at m s n)) (by_names m s ns named) ∙ at_name s n (finmap.get m n) (filter_map (live_at m) ns) (named n)

either_test : (l h k c x : Bool) → h ≡ k → ((l && (h || (false && x))) && c) ≡ ((l && c) && k)
either_test true true true true x same = refl
either_test true true true false x same = refl
either_test true false false true x same = refl
either_test true false false false x same = refl
either_test true true false c x same = absurd cc
either_test true false true c x same = absurd cc
either_test false h k c x same = refl

-- the texts that are found by the names of an offer are those that a response with it states
pub stated_by_name : (m : Entries) (s : Selection) (o : Offer) → IsCatalogue m → filter_map (body_at m s) (finmap.keys o) ≡ stated_bodies m s o
stated_by_name m s o named =
    let names = finmap.keys o in
    let wanted : Selection = record { star = false; names = set.from_list names; cluster = s.cluster } in
    by_names m s names named
    ∙ ap (λ ws. filter_map body_of (filter (covered s) ws)) (content-names m wanted names named refl refl (names_ascend (finmap.entries o) (finmap.entries_sorted o)))
    ∙ ap (filter_map body_of)
    (filter_twice (covered s) (is_shown wanted) (finmap.values m)
    ∙ filter_alike (λ w. is_shown wanted w && covered s w) (λ w. is_shown s w && is_some (finmap.get o w.name)) (finmap.values m)
    (λ w. either_test (is_live w) (set.contains (set.from_list names) w.name) (is_some (finmap.get o w.name)) (covered s w) (is_open_to w.groups s.cluster) (contains-from_texts names w.name ∙ has_text-keys o w.name))
    ∙ sym (filter_twice (λ w. is_some (finmap.get o w.name)) (is_shown s) (finmap.values m)))

-- ---- as the code puts them

pub each_pushed : (m : Entries) (s : Selection) (bodies : List (List ℕ)) (ns : List (List ℕ)) → pushed_each m s bodies ns ≡ bodies ++ filter_map (body_at m s) ns
each_pushed m s bodies [] = sym (append-nil bodies)
each_pushed m s bodies (n ∷ ns) = each_pushed m s (with_text bodies (body_at m s n)) ns ∙ texts_step bodies (body_at m s n) (filter_map (body_at m s) ns)

none_offered : (o : Offer) (ws : List StampedWrite) → finmap.entries o ≡ [] → filter (λ w. is_some (finmap.get o w.name)) ws ≡ []
none_offered o [] none = refl
none_offered o (w ∷ ws) none =
    ap (λ b. cond b (w ∷ filter (λ w. is_some (finmap.get o w.name)) ws) (filter (λ w. is_some (finmap.get o w.name)) ws))
    (ap is_some (finmap.get-entries o w.name ∙ ap (finmap.find text_cmp w.name) none))
    ∙ none_offered o ws none

-- rule: best-writes
-- whether a name was looked up, which tells that each write stands under its name, or there was none
pub all_pushed : (m : Entries) (s : Selection) (o : Offer) (bodies : List (List ℕ)) → IsCatalogue m ⊎ ([] ≡ finmap.entries o) → bodies ≡ pushed_each m s [] (finmap.keys o) → bodies ≡ stated_bodies m s o
all_pushed m s o bodies (inl named) made = made ∙ each_pushed m s [] (finmap.keys o) ∙ stated_by_name m s o named
all_pushed m s o bodies (inr none) made =
    made ∙ ap (λ (es : List (List ℕ × Due)). pushed_each m s [] (map (λ e. e.0) es)) (sym none) ∙ sym (ap (filter_map body_of) (none_offered o (content m s) (sym none)))
