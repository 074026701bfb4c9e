-- What a response leaves of what a client holds, in both variants. This project's own.
--     Delivery                         a response of either variant
--     sotw_stated                      a stated resource of the state of the world, which has no name and no version of its own
--     delta_stated                     a stated resource of a delta response
--     sotw_delivery                    state of the world: a response of a complete type is the whole
--     delta_delivery                   delta: no version of a response is kept
--     fault_in                         why a response is rejected, if it is
--     statements                       what a response that is taken states
--     shown                            the holding of a name that is wanted, after a response that is taken
--     shown_after                      the same of any name: nothing of one that isn't wanted
--     cache_after                      the cache of a type after a response that is taken
--     taking                           a response that is taken is taken whole
--     rejecting                        of one that is rejected nothing but the nonce is kept
--     delivered                        after a response
use Rattle.std.specs.Prelude.{ℕ, List, [], ◌++◌, map, Bool, false, ◌||◌, if◌then◌else◌, Option, Some, None}
use Rattle.std.specs.Option.{option_or, option_map_or}
use Rattle.std.specs.FinMap as finmap
use Rattle.serde_json.specs.Data.{Data}
use Rattle.xds_resource.specs.declared.types.TypeName.{TypeName}
use Rattle.xds_resource.specs.Types.{row}
use Rattle.xds_resource.specs.Names.{tabulate}
use Rattle.xds_message.specs.Messages.{Response}
use Rattle.xds_message.specs.DeltaMessages.{VersionedResource, DeltaResponse}
use Rattle.xds_cache.specs.Shelves.{Holding, Cache, Wants, Shelf, wants_of, is_wanted}
use Rattle.xds_cache.specs.Faults.{Test, Stated, first_fault, stated_by}

-- a response of either variant
pub record Delivery : Type 0 where
  -- whether what it doesn't state is gone
  pub whole : Bool
  pub version : List ℕ
  pub nonce : List ℕ
  pub stated : List Stated
  -- the names that are gone
  pub removed : Wants

abbrev pub sotw_stated : Data → Stated
sotw_stated d = record { named = None; version = []; resource = d }

abbrev pub delta_stated : VersionedResource → Stated
delta_stated r = record { named = Some r.name; version = r.version; resource = r.resource }

-- rule: whole-response
-- state of the world: a response of a complete type is the whole
abbrev pub sotw_delivery : TypeName → Response → Delivery
sotw_delivery t r = record { whole = (row t).is_complete; version = r.version_info; nonce = r.nonce; stated = map sotw_stated r.resources; removed = finmap.empty }

-- delta: no version of a response is kept
abbrev pub delta_delivery : DeltaResponse → Delivery
delta_delivery r = record { whole = false; version = []; nonce = r.nonce; stated = map delta_stated r.resources; removed = wants_of r.removed_resources }

-- rule: whole-or-nothing
-- why a response is rejected, if it is
abbrev pub fault_in : TypeName → Test → Delivery → Option (List ℕ)
fault_in t test d = first_fault t test d.removed finmap.empty d.stated

-- rule: whole-or-nothing
-- what a response that is taken states
abbrev pub statements : TypeName → Delivery → Cache
statements t d = stated_by t finmap.empty d.stated

-- What is held of a name after a response that is taken: what it states; of a name that it neither states nor removes what
-- was held, unless it is the whole; and nothing of a name that isn't wanted.
abbrev pub shown : Bool → Wants → Option Holding → Option Holding → List ℕ → Option Holding
shown whole removed stated held name = option_or stated (if whole || finmap.contains_key removed name then None else held)

-- rule: whole-response
abbrev pub shown_after : TypeName → Wants → Bool → Wants → Cache → Cache → List ℕ → Option Holding
shown_after t w whole removed stated held name =
    if is_wanted t w name then shown whole removed (finmap.get stated name) (finmap.get held name) name else None

-- rule: whole-response
abbrev pub cache_after : TypeName → Wants → Bool → Wants → Cache → Cache → Cache
cache_after t w whole removed stated held = tabulate (shown_after t w whole removed stated held) (finmap.keys stated ++ finmap.keys held)

-- rule: whole-or-nothing
-- a response that is taken is taken whole
abbrev pub taking : TypeName → Shelf → Delivery → Shelf
taking t s d = record s { cache = cache_after t s.wants d.whole d.removed (statements t d) s.cache; nonce = d.nonce; accepted = d.version }

-- rule: whole-or-nothing
-- of one that is rejected nothing but the nonce is kept
abbrev pub rejecting : Shelf → Delivery → Shelf
rejecting s d = record s { nonce = d.nonce }

-- rule: whole-or-nothing
-- after a response
abbrev pub delivered : TypeName → Test → Shelf → Delivery → Shelf
delivered t test s d = option_map_or (λ fault. rejecting s d) (fault_in t test d) (taking t s d)
