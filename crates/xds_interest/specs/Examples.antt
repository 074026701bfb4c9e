-- Interests worked out by hand after each request of some streams. The streams are this project's own.
--     a                                the name of the examples
--     nothing                          the interest in nothing
--     star_alone                       the interest of the star
--     a_alone                          the interest in the one name
--     star_and_a                       the interest of the star and in the name
--     SotwClusters                     Clusters, state of the world: nothing, then `*` and A, then A, then nothing
--     SotwRoutes                       Routes, state of the world: an empty list is nothing, and `*` is a name
--     SotwTwice                        a name that comes twice counts once
--     adds                             a delta request that subscribes these names
--     drops                            a delta request that unsubscribes these names
--     DeltaClusters                    Clusters, delta: an empty request, then A comes, `*` goes, A goes
--     DeltaRoutes                      Routes, delta: an empty request is nothing, `*` is a name
use Rattle.std.specs.Prelude.{◌≡◌, ℕ, List, [], ◌∷◌, true, false, codes}
use Rattle.std.specs.FinSet as set
use Rattle.xds_resource.specs.declared.types.TypeName.TheVariants.{Cluster, Route}
use Rattle.xds_interest.specs.Interests.{Selection, star_text}
use Rattle.xds_interest.specs.SotW.{sotw_interest}
use Rattle.xds_interest.specs.Delta.{Mention, delta_interest}

abbrev pub a : List ℕ
a = codes "A"

abbrev pub nothing : Selection
nothing = record { star = false; names = set.empty; cluster = [] }

abbrev pub star_alone : Selection
star_alone = record { star = true; names = set.empty; cluster = [] }

abbrev pub a_alone : Selection
a_alone = record { star = false; names = set.from_list (a ∷ []); cluster = [] }

abbrev pub star_and_a : Selection
star_and_a = record { star = true; names = set.from_list (a ∷ []); cluster = [] }

-- rule: listed-names
-- Clusters, state of the world: nothing, then `*` and A, then A, then nothing. The last list is empty and yet no star.
pub record SotwClusters : Type 0 where
  pub before : sotw_interest Cluster [] ≡ nothing
  pub first : sotw_interest Cluster ([] ∷ []) ≡ star_alone
  pub second : sotw_interest Cluster ([] ∷ (star_text ∷ a ∷ []) ∷ []) ≡ star_and_a
  pub third : sotw_interest Cluster ([] ∷ (star_text ∷ a ∷ []) ∷ (a ∷ []) ∷ []) ≡ a_alone
  pub fourth : sotw_interest Cluster ([] ∷ (star_text ∷ a ∷ []) ∷ (a ∷ []) ∷ [] ∷ []) ≡ nothing

-- rule: listed-names
-- Routes, state of the world: an empty list is nothing, and `*` is a name.
pub record SotwRoutes : Type 0 where
  pub first : sotw_interest Route ([] ∷ []) ≡ nothing
  pub second : sotw_interest Route ([] ∷ (star_text ∷ []) ∷ []) ≡ record { star = false; names = set.from_list (star_text ∷ []); cluster = [] }

-- rule: listed-names
-- a name that comes twice counts once
abbrev pub SotwTwice : Type 0
SotwTwice = sotw_interest Route ((a ∷ a ∷ []) ∷ []) ≡ a_alone

abbrev pub adds : List (List ℕ) → Mention
adds names = record { subscribe = names; unsubscribe = [] }

abbrev pub drops : List (List ℕ) → Mention
drops names = record { subscribe = []; unsubscribe = names }

-- rule: delta-names
-- Clusters, delta: an empty request, then A comes, `*` goes, A goes, and `*` comes by its name.
pub record DeltaClusters : Type 0 where
  pub before : delta_interest Cluster [] ≡ nothing
  pub first : delta_interest Cluster (adds [] ∷ []) ≡ star_alone
  pub second : delta_interest Cluster (adds [] ∷ adds (a ∷ []) ∷ []) ≡ star_and_a
  pub third : delta_interest Cluster (adds [] ∷ adds (a ∷ []) ∷ drops (star_text ∷ []) ∷ []) ≡ a_alone
  pub fourth : delta_interest Cluster (adds [] ∷ adds (a ∷ []) ∷ drops (star_text ∷ []) ∷ drops (a ∷ []) ∷ []) ≡ nothing
  pub fifth : delta_interest Cluster (adds [] ∷ adds (a ∷ []) ∷ drops (star_text ∷ []) ∷ drops (a ∷ []) ∷ adds (star_text ∷ []) ∷ []) ≡ star_alone

-- rule: delta-names
-- Routes, delta: an empty request is nothing, `*` is a name, and a name in both lists is subscribed.
pub record DeltaRoutes : Type 0 where
  pub first : delta_interest Route (adds [] ∷ []) ≡ nothing
  pub second : delta_interest Route (adds [] ∷ adds (star_text ∷ []) ∷ []) ≡ record { star = false; names = set.from_list (star_text ∷ []); cluster = [] }
  pub both : delta_interest Route (record { subscribe = a ∷ []; unsubscribe = a ∷ [] } ∷ []) ≡ a_alone
