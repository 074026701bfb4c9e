-- What an interest reaches and what it covers.
use Rattle.std.proofs.Common.{◌≡◌, Bool, true, false, ◌&&◌, ◌||◌, ap, ◌∙◌, refl}
use Rattle.std.specs.FinSet as set
use Rattle.std.proofs.lemmas.Bool.{or_parts}
use Rattle.std.proofs.Math.Bool.{and-true}
use Rattle.xds_interest.specs.Interests.{is_open_to}
use Rattle.xds_interest.specs.Touched.{exactly_one}
use Rattle.xds_interest.specs.Laws.{CoveredIsReached, WithoutGroupsReachedIsCovered, UntouchedKeepsCover}
use Rattle.xds_interest.proofs.Choices.{exactly_one-false}
use Rattle.xds_interest.proofs.Listed.{or_swap}

-- e: an explicit name; s: the star; o: it is open to the cluster
by_name_or_star : (e s o : Bool) → (e || (s && o)) ≡ true → (s || e) ≡ true
by_name_or_star true true o h = refl
by_name_or_star true false o h = refl
by_name_or_star false true o h = refl
by_name_or_star false false o h = h

-- rule: star-covers
pub covered_is_reached : CoveredIsReached
covered_is_reached s name groups h = by_name_or_star (set.contains s.names name) s.star (is_open_to groups s.cluster) h

-- rule: star-covers
pub without_groups : WithoutGroupsReachedIsCovered
without_groups s name = ap (λ b. set.contains s.names name || b) (and-true s.star) ∙ or_swap (set.contains s.names name) s.star

pub untouched_keeps_cover : UntouchedKeepsCover
untouched_keeps_cover old new name groups same untouched =
    let parts : (exactly_one old.star new.star ≡ false) × (exactly_one (set.contains old.names name) (set.contains new.names name) ≡ false) = or_parts _ _ untouched in
    (λ i. exactly_one-false (set.contains old.names name) (set.contains new.names name) parts.1 i || (exactly_one-false old.star new.star parts.0 i && is_open_to groups (same i)))
