-- That what clients want is what a server makes of their requests.
use Rattle.std.proofs.Common.{◌≡◌, ℕ, List, [], map, Bool, true, false, cond, ◌||◌, ◌&&◌, not, Option, Some, None, refl, sym, ap, ◌∙◌}
use Rattle.std.proofs.lemmas.List.{nil_from_length}
use Rattle.std.specs.Prelude.{is_some, if◌then◌else◌}
use Rattle.std.specs.FinMap as finmap
use Rattle.std.specs.FinSet as set
use Rattle.xds_resource.specs.declared.types.TypeName.{TypeName}
use Rattle.xds_resource.specs.Types.{row}
use Rattle.xds_resource.specs.Writes.{text_cmp}
use Rattle.xds_resource.proofs.NameMaps.{has_text, has_text-keys, get-tabulate, same_names}
use Rattle.xds_interest.specs.Interests.{star_text, is_star, has_name, in_cluster}
use Rattle.xds_interest.specs.SotW.{is_named, listed}
use Rattle.xds_interest.proofs.SotwLaws.{list_any-is_star, contains-listed, list_reaches_its_names}
use Rattle.xds_interest.specs.Delta.{Mention}
use Rattle.xds_interest.specs.Asked.{star_after, names_after, nothing, everything, unasked, delta_asked}
use Rattle.xds_interest.proofs.AskedLaws.{contains-names_after}
use Rattle.xds_interest.proofs.Texts.{same_texts}
use Rattle.xds_cache.specs.Shelves.{Wants, texts, interest, wants_some, marked, wants_of, wants_after}
use Rattle.xds_cache.specs.Deliveries.{shown}
use Rattle.xds_cache.specs.Laws.{WantsWhatIsReached, ListIsInterest, ListIsAsked, FirstIsAsked, FirstChangeIsAsked, ChangeIsAsked, HoldsWhatIsWanted, WantedByName, ShownByName, KeptByName}
use Rattle.xds_cache.proofs.Making.{get-wants_after, get-cache_after, get-kept_of}

pub wants_what_is_reached : WantsWhatIsReached
wants_what_is_reached t cluster w name =
    list_reaches_its_names t (texts w) name ∙ (λ i. has_text-keys w name i || ((row t).is_complete && has_text-keys w star_text i))

-- lists that have the same texts are the same interest
pub same_interest : (t : TypeName) (cluster : List ℕ) (xs ys : List (List ℕ)) → ((q : List ℕ) → has_name xs q ≡ has_name ys q) → in_cluster cluster (listed t xs) ≡ in_cluster cluster (listed t ys)
same_interest t cluster xs ys same =
    let stars : (listed t xs).star ≡ (listed t ys).star = list_any-is_star t xs ∙ ap (λ b. (row t).is_complete && b) (same star_text) ∙ sym (list_any-is_star t ys) in
    let names : (listed t xs).names ≡ (listed t ys).names =
    same_texts (listed t xs).names (listed t ys).names (λ q. contains-listed t xs q ∙ ap (λ b. not (is_star t q) && b) (same q) ∙ sym (contains-listed t ys q)) in
    λ i. record { star = stars i; names = names i; cluster = cluster }

marked_at : (b : Bool) → is_some (cond b (Some (tt {0})) None) ≡ b
marked_at true = refl
marked_at false = refl

pub has_name-wants_of : (names : List (List ℕ)) (q : List ℕ) → has_name (texts (wants_of names)) q ≡ has_name names q
has_name-wants_of names q = has_text-keys (wants_of names) q ∙ ap is_some (get-tabulate marked names q) ∙ marked_at (has_text names q)

pub list_is_interest : ListIsInterest
list_is_interest t cluster names = same_interest t cluster (texts (wants_of names)) names (has_name-wants_of names)

-- rule: delta-names
pub wanted_by_name : WantedByName
wanted_by_name = get-wants_after

-- rule: whole-response
pub shown_by_name : ShownByName
shown_by_name = get-cache_after

pub kept_by_name : KeptByName
kept_by_name = get-kept_of

pub holds_what_is_wanted : HoldsWhatIsWanted
holds_what_is_wanted t w whole removed stated held name unwanted = (
  get-cache_after t w whole removed stated held name ∙ ap (λ b. if b then shown whole removed (finmap.get stated name) (finmap.get held name) name else None) unwanted,
  get-kept_of t w held name ∙ ap (λ b. if b then finmap.get held name else None) unwanted,
)

some_after : (s b : Option (Unit {0})) (u : Bool) → is_some (if is_some s then Some tt else if u then None else b) ≡ (is_some s || (not u && is_some b))
some_after (Some x) b u = refl
some_after None b true = refl
some_after None b false = refl

has_after : (s u b : Wants) (q : List ℕ) → has_name (texts (wants_after s u b)) q ≡ (has_name (texts s) q || (not (has_name (texts u) q) && has_name (texts b) q))
has_after s u b q =
    has_text-keys (wants_after s u b) q ∙ ap is_some (get-wants_after s u b q) ∙ some_after (finmap.get s q) (finmap.get b q) (finmap.contains_key u q)
    ∙ (λ i. sym (has_text-keys s q) i || (not (sym (has_text-keys u q) i) && sym (has_text-keys b q) i))

-- x: the text is the star; s, u, b: it is subscribed, unsubscribed, wanted before
name_stays : (x s u b : Bool) → (not x && (s || (not u && b))) ≡ ((not x && s) || (not u && (not x && b)))
name_stays true s true b = refl
name_stays true s false b = refl
name_stays false s u b = refl

-- c: a complete type
star_stays : (c s u b : Bool) → (c && (s || (not u && b))) ≡ (c && (if s then true else if u then false else (c && b)))
star_stays true true u b = refl
star_stays true false true b = refl
star_stays true false false b = refl
star_stays false s u b = refl

-- rule: delta-names
pub change_is_asked : ChangeIsAsked
change_is_asked t cluster s u b =
    let m : Mention = record { subscribe = texts s; unsubscribe = texts u } in
    let after = wants_after s u b in
    let star =
    list_any-is_star t (texts after) ∙ ap (λ x. (row t).is_complete && x) (has_after s u b star_text)
    ∙ star_stays (row t).is_complete (has_name (texts s) star_text) (has_name (texts u) star_text) (has_name (texts b) star_text)
    ∙ ap (λ x. (row t).is_complete && star_after m x) (sym (list_any-is_star t (texts b))) in
    let names : (listed t (texts after)).names ≡ set.from_list (names_after t m (set.items (listed t (texts b)).names)) =
    same_texts _ _ (λ q.
    contains-listed t (texts after) q ∙ ap (λ x. not (is_star t q) && x) (has_after s u b q)
    ∙ name_stays (is_star t q) (has_name (texts s) q) (has_name (texts u) q) (has_name (texts b) q)
    ∙ ap (λ x. (not (is_star t q) && has_name (texts s) q) || (not (has_name (texts u) q) && x)) (sym (contains-listed t (texts b) q))
    ∙ sym (contains-names_after t m (listed t (texts b)).names q)) in
    λ i. record { star = star i; names = names i; cluster = cluster }

-- ---- first requests

pub no_texts : texts finmap.empty ≡ []
no_texts = ap (map (λ e. e.0)) (nil_from_length (finmap.entries finmap.empty) (sym (finmap.len-entries finmap.empty) ∙ finmap.len-empty text_cmp (Unit {0})))

-- rule: listed-names
pub list_is_asked : ListIsAsked
list_is_asked t a w named = ap (λ b. in_cluster a.interest.cluster (if b then listed t (texts w) else everything t)) named

first_at : (o e : Option (Unit {0})) (b : Bool) → e ≡ None → (if is_some o then Some tt else if b then None else e) ≡ o
first_at (Some u) e b none = refl
first_at None e true none = refl
first_at None e false none = none

-- what is wanted first is what is subscribed
first_wants : (s u : Wants) → wants_after s u finmap.empty ≡ s
first_wants s u = same_names _ _ (λ q.
    get-wants_after s u finmap.empty q ∙ first_at (finmap.get s q) (finmap.get finmap.empty q) (finmap.contains_key u q) (finmap.get-empty text_cmp q))

-- a first request that subscribes something is as one after which nothing was wanted
as_if_begun : (t : TypeName) (cluster : List ℕ) (m : Mention) → is_named m.subscribe ≡ true
    → (delta_asked t (unasked cluster) m).interest ≡ (delta_asked t (record { begun = true; named = false; interest = nothing cluster }) m).interest
as_if_begun t cluster m named = λ i. record {
  star = (row t).is_complete && star_after m (not (named i));
  names = set.from_list (names_after t m (set.items (nothing cluster).names));
  cluster = cluster;
}

-- rule: delta-names
pub first_change_is_asked : FirstChangeIsAsked
first_change_is_asked t cluster s u some =
    let m : Mention = record { subscribe = texts s; unsubscribe = texts u } in
    as_if_begun t cluster m (ap wants_some (sym (first_wants s u)) ∙ some)
    ∙ ap (λ l. (delta_asked t (record { begun = true; named = false; interest = in_cluster cluster (listed t l) }) m).interest) (sym no_texts)
    ∙ sym (change_is_asked t cluster s u finmap.empty)

-- rule: delta-names
pub first_is_asked : FirstIsAsked
first_is_asked t cluster w some =
    ap (λ l. (delta_asked t (unasked cluster) (record { subscribe = texts w; unsubscribe = l })).interest) (sym no_texts)
    ∙ first_change_is_asked t cluster w finmap.empty (ap wants_some (first_wants w finmap.empty) ∙ some)
    ∙ ap (interest t cluster) (first_wants w finmap.empty)
