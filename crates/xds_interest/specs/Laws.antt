-- What the interests are, in other words: the last list, one request more, and names that a request leaves alone. This project's own.
--     LastListSaysAll                  once something was named, the last list says all
--     WhileNothingIsNamed              while requests came and none named anything
--     ListReachesItsNames              a list reaches the names that it has, and its star reaches all
--     OneRequestMore                   one request more subscribes what it subscribes, drops what else it unsubscribes
--     OneRequestMoreForTheStar         and so it does with the star of a complete type, after the first request
--     StarIsNoName                     the star is no explicit name
--     IncompleteHasNoStar              only a complete type has the star
--     UntouchedKeepsReach              a name that the step between two interests does not touch stays reached
--     UntouchedKeepsReachInDelta       and so does one that a delta request after the first does not touch
--     CoveredIsReached                 what is covered is reached
--     WithoutGroupsReachedIsCovered    of writes without groups all that is reached is covered
--     UntouchedKeepsCover              a name that the step doesn't touch stays covered, or stays not covered
--     SotwIsKept                       what is kept of the lists of a stream suffices
--     DeltaIsKept                      and so it is with delta requests
--     WideningIsUndone                 with more explicit names, and without those that came, all is as before
--     NarrowingIsTheRest               with the explicit names that a delta request subscribes
--     UnchangedTouchesNothing          an interest that stays as it is touches no name
--     SotwTouchIsASet                  the touched names of the state of the world, as a set
--     DeltaTouchIsASet                 the touched names of a delta request, as a set
--     KeptStarIsOfComplete             only a complete type's star stands in what is kept
--     UntouchedKeepsReachOfKept        a name that a list does not touch stays reached, or not reached, by what is kept
--     UntouchedKeepsReachOfKeptInDelta  and so does one that a delta request after the first does not touch
--     UntouchedKeepsCoverOfKept        after a list, untouched names stay covered, or not
--     UntouchedKeepsCoverOfKeptInDelta  after a delta request, untouched names stay covered, or not
use Rattle.std.specs.Prelude.{◌≡◌, ◌≢◌, ℕ, List, [], ◌∷◌, ◌++◌, true, false, ◌&&◌, ◌||◌, if◌then◌else◌, Contains}
use Rattle.std.specs.FinSet as set
use Rattle.xds_resource.specs.declared.types.TypeName.{TypeName}
use Rattle.xds_resource.specs.Types.{row}
use Rattle.xds_resource.specs.Writes.{text_cmp}
use Rattle.xds_interest.specs.Interests.{Selection, reaches, covers, star_text, is_star, has_name}
use Rattle.xds_interest.specs.SotW.{listed, sotw_interest}
use Rattle.xds_interest.specs.Delta.{Mention, delta_interest}
use Rattle.xds_interest.specs.Touched.{sotw_touches, delta_touches}
use Rattle.xds_interest.specs.Asked.{Asked, IsStarOfComplete, unasked, sotw_asked, sotw_kept, delta_asked, delta_kept, wanted_by, widened, without_names, narrowed}
use Rattle.xds_interest.specs.Touches.{no_touch, touches, sotw_touch, delta_touch}

-- rule: listed-names
-- once something was named, the last list says all
abbrev pub LastListSaysAll : Type 0
LastListSaysAll =
    (t : TypeName) (lists : List (List (List ℕ))) (last named : List (List ℕ)) → Contains (lists ++ last ∷ []) named → named ≢ [] → sotw_interest t (lists ++ last ∷ []) ≡ listed t last

-- rule: listed-names
-- while requests came and none named anything, the interest is the star of a complete type, and nothing of an incomplete one
abbrev pub WhileNothingIsNamed : Type 0
WhileNothingIsNamed =
    (t : TypeName) (lists : List (List (List ℕ))) → lists ≢ [] → ((names : List (List ℕ)) → Contains lists names → names ≡ [])
    → sotw_interest t lists ≡ record { star = (row t).is_complete; names = set.empty; cluster = [] }

-- rule: listed-names
-- a list reaches the names that it has, and its star reaches all
abbrev pub ListReachesItsNames : Type 0
ListReachesItsNames =
    (t : TypeName) (names : List (List ℕ)) (name : List ℕ) → reaches (listed t names) name ≡ (has_name names name || ((row t).is_complete && has_name names star_text))

-- rule: delta-names
-- one request more subscribes what it subscribes, drops what else it unsubscribes, and leaves the other names
abbrev pub OneRequestMore : Type 0
OneRequestMore =
    (t : TypeName) (ms : List Mention) (m : Mention) (name : List ℕ) → is_star t name ≡ false
    → set.contains (delta_interest t (ms ++ m ∷ [])).names name
    ≡ (if has_name m.subscribe name then true else if has_name m.unsubscribe name then false else set.contains (delta_interest t ms).names name)

-- rule: delta-names
-- and so it does with the star of a complete type, after the first request
abbrev pub OneRequestMoreForTheStar : Type 0
OneRequestMoreForTheStar =
    (t : TypeName) (ms : List Mention) (m : Mention) → ms ≢ [] → (row t).is_complete ≡ true
    → (delta_interest t (ms ++ m ∷ [])).star
    ≡ (if has_name m.subscribe star_text then true else if has_name m.unsubscribe star_text then false else (delta_interest t ms).star)

-- rule: star-covers
-- the star is no explicit name
abbrev pub StarIsNoName : Type 0
StarIsNoName =
    (t : TypeName) (name : List ℕ) → is_star t name ≡ true
    → ((lists : List (List (List ℕ))) → set.contains (sotw_interest t lists).names name ≡ false) × ((ms : List Mention) → set.contains (delta_interest t ms).names name ≡ false)

-- rule: star-covers
-- only a complete type has the star
abbrev pub IncompleteHasNoStar : Type 0
IncompleteHasNoStar =
    (t : TypeName) → (row t).is_complete ≡ false → ((lists : List (List (List ℕ))) → (sotw_interest t lists).star ≡ false) × ((ms : List Mention) → (delta_interest t ms).star ≡ false)

-- a name that the step between two interests does not touch stays reached, or not reached
abbrev pub UntouchedKeepsReach : Type 0
UntouchedKeepsReach = (old new : Selection) (name : List ℕ) → sotw_touches old new name ≡ false → reaches old name ≡ reaches new name

-- and so does one that a delta request after the first does not touch
abbrev pub UntouchedKeepsReachInDelta : Type 0
UntouchedKeepsReachInDelta =
    (t : TypeName) (ms : List Mention) (m : Mention) (name : List ℕ) → ms ≢ [] → delta_touches t m name ≡ false
    → reaches (delta_interest t (ms ++ m ∷ [])) name ≡ reaches (delta_interest t ms) name

-- rule: star-covers
-- what is covered is reached
abbrev pub CoveredIsReached : Type 0
CoveredIsReached = (s : Selection) (name : List ℕ) (groups : List (List ℕ)) → covers s name groups ≡ true → reaches s name ≡ true

-- rule: star-covers
-- of writes without groups all that is reached is covered
abbrev pub WithoutGroupsReachedIsCovered : Type 0
WithoutGroupsReachedIsCovered = (s : Selection) (name : List ℕ) → covers s name [] ≡ reaches s name

-- a name that the step between two interests of one cluster does not touch stays covered, or not covered, whatever its groups
abbrev pub UntouchedKeepsCover : Type 0
UntouchedKeepsCover =
    (old new : Selection) (name : List ℕ) (groups : List (List ℕ)) → old.cluster ≡ new.cluster → sotw_touches old new name ≡ false → covers old name groups ≡ covers new name groups

-- rule: listed-names
-- What is kept of the lists of a stream suffices: after one list more it is what is kept of them all.
abbrev pub SotwIsKept : Type 0
SotwIsKept =
    (t : TypeName) (cluster : List ℕ) (lists : List (List (List ℕ))) (last : List (List ℕ)) → sotw_asked t (sotw_kept t cluster lists) last ≡ sotw_kept t cluster (lists ++ last ∷ [])

-- rule: delta-names
-- and so it is with delta requests
abbrev pub DeltaIsKept : Type 0
DeltaIsKept = (t : TypeName) (cluster : List ℕ) (ms : List Mention) (m : Mention) → delta_asked t (delta_kept t cluster ms) m ≡ delta_kept t cluster (ms ++ m ∷ [])

-- rule: delta-names
-- with more explicit names, and without those that came, all is as before
abbrev pub WideningIsUndone : Type 0
WideningIsUndone = (before : Asked) (names : set.FinSet text_cmp) → without_names (widened before names) (set.difference names before.interest.names) ≡ before

-- rule: delta-names
-- with the explicit names that a delta request subscribes, and narrowed by the rest of it, is what is kept after the request
abbrev pub NarrowingIsTheRest : Type 0
NarrowingIsTheRest =
    (t : TypeName) (before : Asked) (m : Mention) → narrowed (widened before (wanted_by t before m).names) (wanted_by t before m) m.unsubscribe ≡ delta_asked t before m

-- an interest that stays as it is touches no name
abbrev pub UnchangedTouchesNothing : Type 0
UnchangedTouchesNothing = (s : Selection) → sotw_touch s s ≡ no_touch

-- the touched names, as a set
abbrev pub SotwTouchIsASet : Type 0
SotwTouchIsASet = (old new : Selection) (name : List ℕ) → touches (sotw_touch old new) name ≡ sotw_touches old new name

abbrev pub DeltaTouchIsASet : Type 0
DeltaTouchIsASet = (t : TypeName) (m : Mention) (name : List ℕ) → touches (delta_touch t m) name ≡ delta_touches t m name

-- rule: star-covers
-- only a complete type's star stands in what is kept
abbrev pub KeptStarIsOfComplete : Type 0
KeptStarIsOfComplete =
    (t : TypeName) → ((cluster : List ℕ) → IsStarOfComplete t (unasked cluster)) × ((a : Asked) (names : List (List ℕ)) → IsStarOfComplete t (sotw_asked t a names))
    × ((a : Asked) (m : Mention) → IsStarOfComplete t (delta_asked t a m))

-- a name that a list does not touch stays reached, or not reached, by what is kept
abbrev pub UntouchedKeepsReachOfKept : Type 0
UntouchedKeepsReachOfKept =
    (t : TypeName) (old : Asked) (names : List (List ℕ)) (name : List ℕ) → touches (sotw_touch old.interest (sotw_asked t old names).interest) name ≡ false
    → reaches (sotw_asked t old names).interest name ≡ reaches old.interest name

-- and so does one that a delta request after the first does not touch
abbrev pub UntouchedKeepsReachOfKeptInDelta : Type 0
UntouchedKeepsReachOfKeptInDelta =
    (t : TypeName) (old : Asked) (m : Mention) (name : List ℕ) → old.begun ≡ true → IsStarOfComplete t old → touches (delta_touch t m) name ≡ false
    → reaches (delta_asked t old m).interest name ≡ reaches old.interest name

-- Such names stay covered, or not covered, whatever their groups.
abbrev pub UntouchedKeepsCoverOfKept : Type 0
UntouchedKeepsCoverOfKept =
    (t : TypeName) (old : Asked) (names : List (List ℕ)) (name : List ℕ) (groups : List (List ℕ)) → touches (sotw_touch old.interest (sotw_asked t old names).interest) name ≡ false
    → covers (sotw_asked t old names).interest name groups ≡ covers old.interest name groups

abbrev pub UntouchedKeepsCoverOfKeptInDelta : Type 0
UntouchedKeepsCoverOfKeptInDelta =
    (t : TypeName) (old : Asked) (m : Mention) (name : List ℕ) (groups : List (List ℕ)) → old.begun ≡ true → IsStarOfComplete t old → touches (delta_touch t m) name ≡ false
    → covers (delta_asked t old m).interest name groups ≡ covers old.interest name groups
