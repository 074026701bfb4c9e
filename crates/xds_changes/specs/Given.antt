-- The stamped writes that a server begins with, and the numbers that its replicas may have then. This project's own.
--     AreBelow         each of these writes was made by a replica of a lower number
--     AllBelow         so was each of a batch
--     IsOver           a number above those of the replicas that made the given writes
--     IsLeastOver      the least of these
--     IsNumberOver     the first replica's number: the one that was asked for, if one was; above those of the given writes
--     IsLeastOrAsked   the least number that will do, where none was asked for
--     HasNoNumber      no number will do
--     MergesSome       what is held once a batch was merged, if there is one
--     IsHeldFirst      what is held of what is stored, and over it of the given writes
--     IsAllOver        all that is held, and over it what a file's changes come to, if there is one
--     IsWorldOver      what each replica of a server merges before anybody is answered
use Rattle.std.specs.Prelude.{◌≡◌, ◌<◌, ◌≤◌, ◌+◌, ℕ, ⊤, Bool, true, false, List, All, Option, None, Some, IfSome, Ok}
use Rattle.xds_resource.specs.declared.types.TypeName.{TypeName}
use Rattle.xds_resource.specs.Writes.{StampedWrite}
use Rattle.xds_resource.specs.PerType.{at, each}
use Rattle.xds_catalogue.specs.Holdings.{nothing_held}
use Rattle.xds_events.specs.Stores.{Batch, Store, all_entries, merging}
use Rattle.xds_changes.specs.Loads.{IsLoaded}

-- rule: new-numbers
-- each of these writes was made by a replica of a number below this one
abbrev pub AreBelow : ℕ → List StampedWrite → Type 0
AreBelow number writes = All (λ w. w.writer < number) writes

-- rule: new-numbers
-- each write of a batch was made by a replica of a number below this one
abbrev pub AllBelow : ℕ → Batch → Type 0
AllBelow number batch = (t : TypeName) → AreBelow number (at batch t)

-- rule: new-numbers
-- a number, from 1, above those of the replicas that made the given writes
abbrev pub IsOver : Option Batch → ℕ → Type 0
IsOver given number = (1 ≤ number) × IfSome given (AllBelow number)

-- rule: new-numbers
-- the least of these
pub record IsLeastOver (given : Option Batch) (number : ℕ) : Type 0 where
  pub is_over : IsOver given number
  pub is_least : (other : ℕ) → IsOver given other → number ≤ other

-- rule: new-numbers
-- The number of the first of so many replicas: the one that was asked for, if one was; all of them have numbers above those of the replicas
-- that made the given writes, and none above 65,535.
pub record IsNumberOver (asked : Option ℕ) (replicas : ℕ) (given : Option Batch) (first : ℕ) : Type 0 where
  pub is_asked : IfSome asked (λ n. first ≡ n)
  pub is_over : IsOver given first
  pub has_room : first + replicas ≤ 65536

-- rule: new-numbers
-- the least number above those of the given writes, where none was asked for
abbrev pub IsLeastOrAsked : Option ℕ → Option Batch → ℕ → Type 0
IsLeastOrAsked None given first = IsLeastOver given first
IsLeastOrAsked (Some asked) given first = ⊤

-- rule: new-numbers
-- no number that a replica may have will do
abbrev pub HasNoNumber : Option ℕ → ℕ → Option Batch → Type 0
HasNoNumber asked replicas given = (first : ℕ) → first ≤ 65535 → IsNumberOver asked replicas given first → ⊥

-- rule: loaded-first
-- what is held once a batch was merged, if there is one
abbrev pub MergesSome : Store → Option Batch → Store → Type 0
MergesSome held None after = after ≡ held
MergesSome held (Some batch) after = (grown : ℕ) × (merging held batch ≡ Ok (grown, after))

-- rule: loaded-first
-- What is held of what is stored, and over it of the given writes, where nothing was held before.
pub record IsHeldFirst (stored given : Option Batch) (held : Store) : Type 0 where
  pub of_stored : Store
  pub stored_is : MergesSome (each nothing_held) stored of_stored
  pub given_is : MergesSome of_stored given held

-- rule: loaded-first
-- all that is held, and over it what the changes of a file come to, if there is one
abbrev pub IsAllOver : ℕ → ℕ → Store → Bool → Batch → Type 0
IsAllOver first replicas held false batch = batch ≡ all_entries held
IsAllOver first replicas held true batch = (before : Option (List ℕ)) × (after : Option (List ℕ)) × IsLoaded first replicas held before after batch

-- rule: loaded-first
-- what each replica of a server merges before anybody is answered
abbrev pub IsWorldOver : ℕ → ℕ → Option Batch → Option Batch → Bool → Batch → Type 0
IsWorldOver first replicas stored given loads batch = (held : Store) × IsHeldFirst stored given held × IsAllOver first replicas held loads batch
