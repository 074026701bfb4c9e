-- What a client keeps of each type: what it wants, what it holds, and how far its stream is. This project's own.
--     Wants                            the texts that a client asks for; in a complete type `*` is the star
--     Holding, holding_code            what a client holds of a name: a version and a body
--     Cache                            what a client holds of each name
--     Shelf, shelf_code                what a client keeps of a type
--     bare                             of a client that wants nothing
--     texts                            the texts in ascending order, as requests list them
--     wants_some                       whether something is wanted
--     interest                         the interest that these texts are, of a client whose node is of this cluster
--     is_wanted                        whether the client wants the resource of a name
--     marked                           a text is among the wanted ones
--     wants_of                         the texts of a list
--     marked_after                     whether a text is wanted after a change that subscribes and unsubscribes texts
--     wants_after                      the wanted texts after such a change
--     kept                             the holding of a name once these texts are wanted
--     kept_of                          the cache once these texts are wanted
--     cached_version                   the version that is held of a name
--     cached_versions                  the versions that are held
--     wanting                          once the client wants these, and asked for them or not
--     connected                        at the start of a stream, on which everything that is wanted is asked for
--     lost                             once the stream is lost
use Rattle.std.specs.Prelude.{ℕ, List, [], ◌++◌, Bool, false, ◌&&◌, ◌||◌, if◌then◌else◌, Option, Some, None, option_map, refl}
use Rattle.std.specs.FinMap as finmap
use Rattle.std.specs.FinSet as set
use Rattle.std.specs.Coded.{Coded, code_by, coded×, coded_ℕ, coded_bool, coded_list}
use Rattle.xds_resource.specs.declared.types.TypeName.{TypeName}
use Rattle.xds_resource.specs.Types.{row}
use Rattle.xds_resource.specs.Writes.{text_cmp}
use Rattle.xds_resource.specs.Names.{tabulate}
use Rattle.xds_message.specs.Versions.{VersionMap}
use Rattle.xds_interest.specs.Interests.{Selection, star_text, in_cluster}
use Rattle.xds_interest.specs.SotW.{is_named, listed}

-- the texts that a client asks for; in a complete type `*` is the star
abbrev pub Wants : Type 0
Wants = set.FinSet text_cmp

-- what a client holds of a name: the version that it was told, empty in state of the world, and the body
pub record Holding : Type 0 where
  pub version : List ℕ
  pub body : List ℕ

abbrev pub Cache : Type 0
Cache = finmap.FinMap text_cmp Holding

pub record Shelf : Type 0 where
  pub wants : set.FinSet text_cmp
  pub cache : finmap.FinMap text_cmp Holding
  -- of the last response of the type on this stream, empty before the first
  pub nonce : List ℕ
  -- the version text that was accepted last, in state of the world
  pub accepted : List ℕ
  -- whether the client asked for the type on this stream
  pub asked : Bool

abbrev pub holding_code : Coded Holding
holding_code = code_by (List ℕ × List ℕ) (coded× (coded_list coded_ℕ) (coded_list coded_ℕ)) (λ h. (h.version, h.body)) (λ p. record { version = p.0; body = p.1 }) (λ _. refl)

abbrev pub shelf_code : Coded Shelf
shelf_code =
    code_by (set.FinSet text_cmp × (finmap.FinMap text_cmp Holding × (List ℕ × (List ℕ × Bool))))
    (coded× (set.code (coded_list coded_ℕ)) (coded× (finmap.code (coded_list coded_ℕ) holding_code) (coded× (coded_list coded_ℕ) (coded× (coded_list coded_ℕ) coded_bool))))
    (λ s. (s.wants, (s.cache, (s.nonce, (s.accepted, s.asked))))) (λ p. record { wants = p.0; cache = p.1.0; nonce = p.1.1.0; accepted = p.1.1.1.0; asked = p.1.1.1.1 }) (λ _. refl)

-- of a client that wants nothing
abbrev pub bare : Shelf
bare = record { wants = finmap.empty; cache = finmap.empty; nonce = []; accepted = []; asked = false }

-- ---- what is wanted

-- the texts in ascending order, as requests list them
abbrev pub texts : Wants → List (List ℕ)
texts w = finmap.keys w

-- whether something is wanted
abbrev pub wants_some : Wants → Bool
wants_some w = is_named (texts w)

-- the interest that these texts are, of a client whose node is of this cluster
abbrev pub interest : TypeName → List ℕ → Wants → Selection
interest t cluster w = in_cluster cluster (listed t (texts w))

-- whether the client wants the resource of a name: it asks for that name, or for the star
abbrev pub is_wanted : TypeName → Wants → List ℕ → Bool
is_wanted t w name = finmap.contains_key w name || ((row t).is_complete && finmap.contains_key w star_text)

abbrev pub marked : List ℕ → Option (Unit {0})
marked name = Some tt

-- the texts of a list
abbrev pub wants_of : List (List ℕ) → Wants
wants_of names = tabulate marked names

-- rule: delta-names
-- Whether a text is wanted after a change that subscribes and unsubscribes texts: one in both is subscribed.
abbrev pub marked_after : Wants → Wants → Wants → List ℕ → Option (Unit {0})
marked_after subscribe unsubscribe before name =
    if finmap.contains_key subscribe name then Some tt else if finmap.contains_key unsubscribe name then None else finmap.get before name

-- rule: delta-names
abbrev pub wants_after : Wants → Wants → Wants → Wants
wants_after subscribe unsubscribe before =
    tabulate (marked_after subscribe unsubscribe before) (finmap.keys subscribe ++ finmap.keys before)

-- ---- what is held

-- what is still held of a name once the client wants these
abbrev pub kept : TypeName → Wants → Cache → List ℕ → Option Holding
kept t w cache name = if is_wanted t w name then finmap.get cache name else None

abbrev pub kept_of : TypeName → Wants → Cache → Cache
kept_of t w cache = tabulate (kept t w cache) (finmap.keys cache)

-- the version that is held of a name
abbrev pub cached_version : Cache → List ℕ → Option (List ℕ)
cached_version cache name = option_map (λ h. h.version) (finmap.get cache name)

-- the versions that are held
abbrev pub cached_versions : Cache → VersionMap
cached_versions cache = tabulate (cached_version cache) (finmap.keys cache)

-- once the client wants these, and asked for them or not
abbrev pub wanting : TypeName → Wants → Bool → Shelf → Shelf
wanting t w asked s = record s { wants = w; cache = kept_of t w s.cache; asked = asked }

-- at the start of a stream, on which everything that is wanted is asked for
abbrev pub connected : Shelf → Shelf
connected s = record s { nonce = []; asked = wants_some s.wants }

-- once the stream is lost
abbrev pub lost : Shelf → Shelf
lost s = record s { nonce = []; asked = false }
