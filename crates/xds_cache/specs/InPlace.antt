-- How a response that isn't the whole changes what is held, in place: the answers of the functions that make the change. This
-- project's own.
--     HoldsWanted   nothing is held that isn't wanted
--     IsPruned      and so of a type, if one is known
--     is_new        whether a name is wanted, and nothing is held of it
--     new_names     those of some names that are
--     removed_all   without each of some names
--     cleared       without a name, unless something is stated of it
--     cleared_all   and so with each of some names
--     replaced      with another holding at a name of which something is held
--     stored        and so with what is stated of a name, if something is
--     stored_all    and so with each of some names; what is stated of a name is stored once
use Rattle.std.specs.Prelude.{◌≡◌, ℕ, List, [], ◌∷◌, Bool, false, ◌&&◌, not, Option, Some, None, is_some, if◌then◌else◌}
use Rattle.std.specs.List.{filter}
use Rattle.std.specs.FinMap as finmap
use Rattle.xds_resource.specs.declared.types.TypeName.{TypeName}
use Rattle.xds_cache.specs.Shelves.{Wants, Holding, Cache, is_wanted}

-- nothing is held that isn't wanted
abbrev pub HoldsWanted : TypeName → Wants → Cache → Type 0
HoldsWanted t w held = (name : List ℕ) → is_wanted t w name ≡ false → finmap.get held name ≡ None

-- and so of a type, if one is known
abbrev pub IsPruned : Option TypeName → Wants → Cache → Type 0
IsPruned None w held = Unit {0}
IsPruned (Some t) w held = HoldsWanted t w held

-- whether a name is wanted, and nothing is held of it
abbrev pub is_new : TypeName → Wants → Cache → List ℕ → Bool
is_new t w held name = is_wanted t w name && not (is_some (finmap.get held name))

-- those of some names that are
abbrev pub new_names : TypeName → Wants → Cache → List (List ℕ) → List (List ℕ)
new_names t w held names = filter (is_new t w held) names

-- without each of some names
abbrev pub removed_all : Cache → List (List ℕ) → Cache
removed_all held [] = held
removed_all held (n ∷ ns) = removed_all (finmap.remove held n) ns

-- without a name, unless something is stated of it
abbrev pub cleared : Cache → Cache → List ℕ → Cache
cleared stated held name = if is_some (finmap.get stated name) then held else finmap.remove held name

-- and so with each of some names
abbrev pub cleared_all : Cache → Cache → List (List ℕ) → Cache
cleared_all stated held [] = held
cleared_all stated held (n ∷ ns) = cleared_all stated (cleared stated held n) ns

-- with another holding at a name of which something is held
abbrev pub replaced : Cache → List ℕ → Holding → Cache
replaced held name h = if is_some (finmap.get held name) then finmap.insert held name h else held

-- and so with what is stated of a name, if something is
abbrev pub stored : Cache → List ℕ → Option Holding → Cache
stored held name None = held
stored held name (Some h) = replaced held name h

-- and so with each of some names; what is stated of a name is stored once
abbrev pub stored_all : Cache → Cache → List (List ℕ) → Cache
stored_all stated held [] = held
stored_all stated held (n ∷ ns) = stored_all (finmap.remove stated n) (stored held n (finmap.get stated n)) ns
