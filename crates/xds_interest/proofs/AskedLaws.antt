-- The laws of what is kept of a stream's requests, and of the names that they touch.
use Rattle.std.proofs.Common.{◌≡◌, ℕ, List, [], ◌∷◌, ◌++◌, Bool, true, false, ◌&&◌, ◌||◌, not, if◌then◌else◌, unwrap_or, refl, sym, ap, ◌∙◌}
use Rattle.std.specs.List.{list_any, filter}
use Rattle.std.specs.Str.{bytes_eq}
use Rattle.std.specs.FinSet as set
use Rattle.std.proofs.lemmas.Bool.{or_parts}
use Rattle.std.proofs.lemmas.Cmp.{nat_list_cmp_total}
use Rattle.std.proofs.lemmas.List.Folds.{list_any-append}
use Rattle.std.proofs.lemmas.Map.Views.{any-filter_same}
use Rattle.std.proofs.Math.Bool.{or-false}
use Rattle.xds_resource.specs.declared.types.TypeName.{TypeName}
use Rattle.xds_resource.specs.Types.{row}
use Rattle.xds_resource.specs.Writes.{text_cmp}
use Rattle.xds_resource.proofs.NameMaps.{bytes_eq_tells}
use Rattle.xds_interest.specs.Interests.{star_text, is_star, has_name, names_among, reaches, covers, is_open_to, in_cluster}
use Rattle.xds_interest.specs.SotW.{is_named, last_list, listed}
use Rattle.xds_interest.specs.Delta.{Mention, last_said, is_subscribed, opens_unnamed, delta_interest}
use Rattle.xds_interest.specs.Touched.{mentions}
use Rattle.xds_interest.specs.Asked.{Asked, everything, names_after, star_after, IsStarOfComplete, sotw_asked, delta_asked, wanted_by}
use Rattle.xds_interest.specs.Touches.{touches, sotw_touch, delta_touch}
use Rattle.xds_interest.specs.Laws.{SotwIsKept, DeltaIsKept, SotwTouchIsASet, DeltaTouchIsASet, KeptStarIsOfComplete, UntouchedKeepsReachOfKept, UntouchedKeepsReachOfKeptInDelta, UntouchedKeepsCoverOfKept, UntouchedKeepsCoverOfKeptInDelta}
use Rattle.xds_interest.proofs.Texts.{contains-from_texts, has_name-items, same_texts}
use Rattle.xds_interest.proofs.Choices.{and_second, or_kept, word_now, complete_twice, exactly_one-swapped, kept_star, kept_name}
use Rattle.xds_interest.proofs.Listed.{list_any-push}
use Rattle.xds_interest.proofs.SotwLaws.{last_list-push, list_any-is_star, has_name-names_among, untouched_keeps_reach}
use Rattle.xds_interest.proofs.Reaching.{untouched_keeps_cover}
use Rattle.xds_interest.proofs.DeltaLaws.{last_word-push, star-push, contains-delta}

-- ---- what is kept

-- rule: listed-names
pub sotw_is_kept : SotwIsKept
sotw_is_kept t cluster [] last =
    let named : is_named last ≡ (is_named last || false) = sym (or-false (is_named last)) in
    (λ i. record { begun = true; named = named i; interest = in_cluster cluster (if named i then listed t last else everything t) })
sotw_is_kept t cluster (x ∷ xs) last =
    let named : (list_any is_named (x ∷ xs) || is_named last) ≡ list_any is_named (x ∷ (xs ++ last ∷ [])) = sym (list_any-push is_named (x ∷ xs) last) in
    let same : last ≡ last_list (x ∷ (xs ++ last ∷ [])) = sym (last_list-push (x ∷ xs) last) in
    (λ i. record { begun = true; named = named i; interest = in_cluster cluster (if named i then listed t (same i) else everything t) })

-- what another list has no part in
pub has_name-without : (out xs : List (List ℕ)) (q : List ℕ) → has_name (filter (λ name. not (has_name out name)) xs) q ≡ (not (has_name out q) && has_name xs q)
has_name-without out xs q =
    any-filter_same (bytes_eq q) (λ name. not (has_name out name)) (not (has_name out q)) (λ name same. ap (λ x. not (has_name out x)) (sym (bytes_eq_tells q name same))) xs

-- the explicit names after one request more
pub contains-names_after : (t : TypeName) (m : Mention) (before : set.FinSet text_cmp) (q : List ℕ)
    → set.contains (set.from_list {R = text_cmp} (names_after t m (set.items before))) q
    ≡ ((not (is_star t q) && has_name m.subscribe q) || (not (has_name m.unsubscribe q) && set.contains before q))
contains-names_after t m before q =
    contains-from_texts (names_after t m (set.items before)) q ∙ list_any-append (bytes_eq q) (names_among t m.subscribe) (filter (λ name. not (has_name m.unsubscribe name)) (set.items before))
    ∙ (λ i. has_name-names_among t m.subscribe q i || (has_name-without m.unsubscribe (set.items before) q ∙ ap (λ b. not (has_name m.unsubscribe q) && b) (has_name-items before q)) i)

names_kept : (t : TypeName) (ms : List Mention) (m : Mention)
    → set.from_list {R = text_cmp} (names_after t m (set.items (delta_interest t ms).names)) ≡ (delta_interest t (ms ++ m ∷ [])).names
names_kept t ms m = same_texts _ _ (λ q.
    contains-names_after t m (delta_interest t ms).names q
    ∙ ap (λ b. (not (is_star t q) && has_name m.subscribe q) || (not (has_name m.unsubscribe q) && b)) (contains-delta t ms q)
    ∙ word_now (is_star t q) (has_name m.subscribe q) (has_name m.unsubscribe q) (is_subscribed ms q)
    ∙ ap (λ b. b && not (is_star t q)) (sym (last_word-push ms m q false))
    ∙ sym (contains-delta t (ms ++ m ∷ []) q))

-- rule: delta-names
pub delta_is_kept : DeltaIsKept
delta_is_kept t cluster [] m =
    let star : ((row t).is_complete && star_after m (not (is_named m.subscribe))) ≡ (delta_interest t (m ∷ [])).star =
    ap (λ b. (row t).is_complete && b) (sym (last_word-push [] m star_text (not (is_named m.subscribe)))) in
    (λ i. record { begun = true; named = false; interest = record { star = star i; names = names_kept t [] m i; cluster = cluster } })
delta_is_kept t cluster (x ∷ xs) m =
    let star : ((row t).is_complete && star_after m (delta_interest t (x ∷ xs)).star) ≡ (delta_interest t (x ∷ (xs ++ m ∷ []))).star =
    complete_twice (row t).is_complete (has_name m.subscribe star_text) (has_name m.unsubscribe star_text) (unwrap_or (last_said (x ∷ xs) star_text) (opens_unnamed (x ∷ xs)))
    ∙ ap (λ b. (row t).is_complete && b) (sym (star-push (x ∷ xs) m (λ e. absurd cc))) in
    (λ i. record { begun = true; named = false; interest = record { star = star i; names = names_kept t (x ∷ xs) m i; cluster = cluster } })

-- ---- touched names

pub sotw_touch_is_a_set : SotwTouchIsASet
sotw_touch_is_a_set old new name =
    ap (λ b. (sotw_touch old new).all || b)
    (set.contains-union nat_list_cmp_total (set.difference old.names new.names) (set.difference new.names old.names) name
    ∙ (λ i. set.contains-difference nat_list_cmp_total old.names new.names name i || set.contains-difference nat_list_cmp_total new.names old.names name i)
    ∙ exactly_one-swapped (set.contains old.names name) (set.contains new.names name))

pub delta_touch_is_a_set : DeltaTouchIsASet
delta_touch_is_a_set t m name =
    ap (λ b. (delta_touch t m).all || b)
    (contains-from_texts (names_among t (m.subscribe ++ m.unsubscribe)) name ∙ has_name-names_among t (m.subscribe ++ m.unsubscribe) name
    ∙ ap (λ b. not (is_star t name) && b) (list_any-append (bytes_eq name) m.subscribe m.unsubscribe))
    ∙ or_kept (row t).is_complete (mentions m star_text) (mentions m name) (bytes_eq star_text name)
    (λ starry. ap (mentions m) (sym (bytes_eq_tells star_text name (and_second (row t).is_complete _ starry))))

-- ---- untouched names

-- rule: star-covers
pub kept_star_is_of_complete : KeptStarIsOfComplete
kept_star_is_of_complete t = (λ cluster incomplete. refl, λ a names. listed_star a names, λ a m incomplete. ap (λ c. c && star_after m (if a.begun then a.interest.star else not (is_named m.subscribe))) incomplete)
  where
    either : (names : List (List ℕ)) (b : Bool) → (row t).is_complete ≡ false → (if b then listed t names else everything t).star ≡ false
    either names true incomplete = list_any-is_star t names ∙ ap (λ c. c && has_name names star_text) incomplete
    either names false incomplete = incomplete

    listed_star : (a : Asked) (names : List (List ℕ)) → IsStarOfComplete t (sotw_asked t a names)
    listed_star a names = either names (a.named || is_named names)

pub untouched_keeps_reach_of_kept : UntouchedKeepsReachOfKept
untouched_keeps_reach_of_kept t old names name untouched =
    let new = (sotw_asked t old names).interest in sym (untouched_keeps_reach old.interest new name (sym (sotw_touch_is_a_set old.interest new name) ∙ untouched))

pub untouched_keeps_cover_of_kept : UntouchedKeepsCoverOfKept
untouched_keeps_cover_of_kept t old names name groups untouched =
    let new = (sotw_asked t old names).interest in sym (untouched_keeps_cover old.interest new name groups refl (sym (sotw_touch_is_a_set old.interest new name) ∙ untouched))

-- a later request that doesn't touch a name leaves the star, and whether the name is explicit
untouched_parts : (t : TypeName) (old : Asked) (m : Mention) (name : List ℕ) → old.begun ≡ true → IsStarOfComplete t old → touches (delta_touch t m) name ≡ false
    → ((delta_asked t old m).interest.star ≡ old.interest.star) × (set.contains (delta_asked t old m).interest.names name ≡ set.contains old.interest.names name)
untouched_parts t old m name begun allowed untouched =
    let parts : (mentions m name ≡ false) × (((row t).is_complete && mentions m star_text) ≡ false) = or_parts _ _ (sym (delta_touch_is_a_set t m name) ∙ untouched) in (
      ap (λ b. (row t).is_complete && star_after m (if b then old.interest.star else not (is_named m.subscribe))) begun
          ∙ kept_star (row t).is_complete (has_name m.subscribe star_text) (has_name m.unsubscribe star_text) old.interest.star allowed parts.1,
      contains-names_after t m old.interest.names name
          ∙ kept_name (not (is_star t name)) (has_name m.subscribe name) (has_name m.unsubscribe name) (set.contains old.interest.names name) parts.0,
    )

pub untouched_keeps_reach_of_kept_in_delta : UntouchedKeepsReachOfKeptInDelta
untouched_keeps_reach_of_kept_in_delta t old m name begun allowed untouched =
    let (star, names) = untouched_parts t old m name begun allowed untouched in (λ i. star i || names i)

pub untouched_keeps_cover_of_kept_in_delta : UntouchedKeepsCoverOfKeptInDelta
untouched_keeps_cover_of_kept_in_delta t old m name groups begun allowed untouched =
    let (star, names) = untouched_parts t old m name begun allowed untouched in (λ i. names i || (star i && is_open_to groups old.interest.cluster))

-- ---- what a request leaves of the names that it touches

wanted_now : (starry subscribed unsubscribed before : Bool) → (not starry && (subscribed || unsubscribed)) ≡ true
    → (not starry && subscribed) ≡ ((not starry && subscribed) || (not unsubscribed && before))
wanted_now true subscribed unsubscribed before touched = absurd cc
wanted_now false true unsubscribed before touched = refl
wanted_now false false true before touched = refl
wanted_now false false false before touched = absurd cc

-- a name that a request touches by name is explicit in its own part of the interest if it is in the whole interest
wanted_by-contains : (t : TypeName) (a : Asked) (m : Mention) (q : List ℕ) → set.contains (delta_touch t m).names q ≡ true
    → set.contains (wanted_by t a m).names q ≡ set.contains (delta_asked t a m).interest.names q
wanted_by-contains t a m q touched =
    let mentioned : (not (is_star t q) && (has_name m.subscribe q || has_name m.unsubscribe q)) ≡ true =
    ap (λ b. not (is_star t q) && b) (sym (list_any-append (bytes_eq q) m.subscribe m.unsubscribe)) ∙ sym (has_name-names_among t (m.subscribe ++ m.unsubscribe) q)
    ∙ sym (contains-from_texts (names_among t (m.subscribe ++ m.unsubscribe)) q) ∙ touched in
    contains-from_texts (names_among t m.subscribe) q ∙ has_name-names_among t m.subscribe q
    ∙ wanted_now (is_star t q) (has_name m.subscribe q) (has_name m.unsubscribe q) (set.contains a.interest.names q) mentioned
    ∙ sym (contains-names_after t m a.interest.names q)

-- of such a name the part of the interest says what the whole interest says: whether it is reached, and whether it is covered
pub wanted_by-reaches : (t : TypeName) (a : Asked) (m : Mention) (q : List ℕ) → set.contains (delta_touch t m).names q ≡ true → reaches (wanted_by t a m) q ≡ reaches (delta_asked t a m).interest q
wanted_by-reaches t a m q touched = ap (λ b. (delta_asked t a m).interest.star || b) (wanted_by-contains t a m q touched)

pub wanted_by-covers : (t : TypeName) (a : Asked) (m : Mention) (q : List ℕ) (groups : List (List ℕ)) → set.contains (delta_touch t m).names q ≡ true
    → covers (wanted_by t a m) q groups ≡ covers (delta_asked t a m).interest q groups
wanted_by-covers t a m q groups touched = ap (λ b. b || ((delta_asked t a m).interest.star && is_open_to groups a.interest.cluster)) (wanted_by-contains t a m q touched)
