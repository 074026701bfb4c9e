-- What the changes of a file come to that are made before anybody is answered: one after another, each over all that was made before. This project's own.
--     number_at    the number of the replica at this place, where the first has this one
--     made_by      what is held once the replica of this number made a change, or why it is refused
--     loading      so it is at its replica, if that is one of so many
--     then_loaded  what follows a change that was made, unless it is refused
--     all_loaded   what is held once all changes were made, or why the first that is refused is
--     Loaded       what is held, and why a change was refused, if one was
--     Loads        a change was made, unless one before was refused
--     so_far       what was loaded so far
--     Takes        a change was handed to what is loaded so far
--     IsLoaded     all that was read is changes, and this is what they come to
--     IsWrongLine  the lines before this one are changes, and this one is none
--     IsUnmade     there was no memory for one of the changes, behind those that were made
--     IsRefused    all that was read is changes, and one of them is refused, behind those that were made
--     IsCut        a read failed: the lines that had ended before are changes
--     IsUnloaded   a read failed; or all changes were made, and there was no memory for what they come to
--     HasLoaded    what the changes come to, or why they aren't loaded
--     end_by       why a file isn't loaded that was read to its end: by its refused line, or for want of memory
use Rattle.std.specs.Prelude.{◌≡◌, ◌⊎◌, ℕ, ◌+◌, ◌-◌, min, max, List, [], ◌∷◌, ◌++◌, ◌||◌, ◌==◌, nat_lt, if◌then◌else◌, Option, None, Some, IfSome, IsSome, option_map, Result, Ok, Err}
use Rattle.std.specs.Io.KnownBytes.{Consumes, IsAtEnd}
use Rattle.xds_resource.specs.declared.refusal.Refusal.{Refusal}
use Rattle.xds_resource.specs.declared.refusal.Refusal.TheVariants.{BadScript, Device, OutOfMemory}
use Rattle.xds_events.specs.Events.{Event, Put, Delete}
use Rattle.xds_events.specs.Stores.{Batch, Store, all_entries, putting_at, deleting_at, if_done}
use Rattle.xds_script.specs.Lines.{feed, pieces}
use Rattle.xds_notes.specs.declared.ending.End.{End}
use Rattle.xds_notes.specs.declared.ending.End.TheVariants.{Streams, Stopped, Line, Refused}
use Rattle.xds_changes.specs.declared.loading.Loader.{Loader}
use Rattle.xds_changes.specs.Changes.{Written}
use Rattle.xds_changes.specs.Handing.{line_after}
use Rattle.xds_changes.specs.Inputs.{AreTaken, AreRefused, AreEnded}

-- rule: new-numbers
-- the number of the replica at this place, from 1, where the first has this number: none is greater than 65,535
abbrev pub number_at : ℕ → ℕ → ℕ
number_at first place = max 1 (min 65535 (first + (place - 1)))

-- rule: loaded-first
-- what is held once the replica of this number made a change, or why it is refused
abbrev pub made_by : ℕ → Store → Event → Result Store Refusal
made_by writer s (Put t r groups) = if_done (λ p. p.1) (putting_at s t r groups writer)
made_by writer s (Delete t name) = if_done (λ p. p.1) (deleting_at s t name writer)
made_by writer s e = Err BadScript

-- rule: loaded-first
-- so it is at its replica, if that is one of so many, of which the first has this number
abbrev pub loading : ℕ → ℕ → Store → Written → Result Store Refusal
loading first replicas s w = if w.0 == 0 || nat_lt replicas w.0 then Err BadScript else made_by (number_at first w.0) s w.1

-- rule: loaded-first
-- what follows a change that was made, unless it is refused
abbrev pub then_loaded : (Store → Result Store Refusal) → Result Store Refusal → Result Store Refusal
then_loaded others (Ok s) = others s
then_loaded others (Err e) = Err e

-- rule: loaded-first
-- what is held once all changes were made, or why the first that is refused is
abbrev pub all_loaded : ℕ → ℕ → Store → List Written → Result Store Refusal
all_loaded first replicas s [] = Ok s
all_loaded first replicas s (w ∷ ws) = then_loaded (λ t. all_loaded first replicas t ws) (loading first replicas s w)

-- what is held, and why a change was refused, if one was
pub record Loaded : Type 0 where
  pub held : Store
  pub refused : Option Refusal

-- rule: loaded-first
-- a change was made, over all that was held, unless one before was refused; or it is refused, or there was no memory for it
pub record Loads (first replicas : ℕ) (s t : Loaded) (w : Written) : Type 0 where
  pub stays : IsSome s.refused → t ≡ s
  pub done : t.refused ≡ None → loading first replicas s.held w ≡ Ok t.held
  pub refused : s.refused ≡ None → IfSome t.refused (λ e. (e ≡ OutOfMemory) ⊎ (loading first replicas s.held w ≡ Err e))

-- what was loaded so far
abbrev pub so_far : Loader → Loaded
so_far l = record { held = l.held; refused = option_map (λ p. p.1) l.refused }

-- rule: loaded-first
-- a change was handed to what is loaded so far
abbrev pub Takes : Loader → Loader → Written → Type 0
Takes s t w = (t.first ≡ s.first) × (t.replicas ≡ s.replicas) × Loads s.first s.replicas (so_far s) (so_far t) w

-- rule: loaded-first
-- all that was read is changes, none of which is refused, and this is all that is held once they were made, over what was held before
pub record IsLoaded (first replicas : ℕ) (start : Store) (before after : Option (List ℕ)) (batch : Batch) : Type 0 where
  pub came : List ℕ
  pub read : Consumes before after came
  pub at_end : IsAtEnd after
  pub changes : List Written
  pub taken : AreTaken (pieces feed came) changes
  pub held : Store
  pub loaded : all_loaded first replicas start changes ≡ Ok held
  pub batch_is : batch ≡ all_entries held

-- rule: loaded-first
-- the lines before this one are changes, and this one is none, or there was no memory for it: it is told by its number, from 1
pub record IsWrongLine (before after : Option (List ℕ)) (line : ℕ) (refusal : Refusal) : Type 0 where
  pub came : List ℕ
  pub read : Consumes before after came
  pub changes : List Written
  pub count : ℕ
  pub refused : AreRefused (pieces feed came) changes count refusal
  pub line_is : line ≡ line_after 1 count

-- rule: loaded-first
-- there was no memory for a change, behind those that were made over what was held before
pub record IsUnmade (first replicas : ℕ) (start : Store) (changes : List Written) : Type 0 where
  pub made : List Written
  pub unmade : Written
  pub behind : List Written
  pub changes_are : changes ≡ made ++ unmade ∷ behind
  pub held : Store
  pub loaded : all_loaded first replicas start made ≡ Ok held

-- rule: loaded-first
-- all that was read is changes, and one of them is refused, behind those that were made over what was held before; or there was no memory for one
pub record IsRefused (first replicas : ℕ) (start : Store) (before after : Option (List ℕ)) (refusal : Refusal) : Type 0 where
  pub came : List ℕ
  pub read : Consumes before after came
  pub at_end : IsAtEnd after
  pub changes : List Written
  pub taken : AreTaken (pieces feed came) changes
  pub why : (all_loaded first replicas start changes ≡ Err refusal) ⊎ ((refusal ≡ OutOfMemory) × IsUnmade first replicas start changes)

-- rule: loaded-first
-- a read failed: so many lines had ended before, and they are changes
pub record IsCut (before after : Option (List ℕ)) : Type 0 where
  pub came : List ℕ
  pub read : Consumes before after came
  pub changes : List Written
  pub count : ℕ
  pub left : List ℕ
  pub ended : AreEnded came changes count left

-- rule: loaded-first
-- a read failed; or all changes were made, and there was no memory for a batch of what they come to
abbrev pub IsUnloaded : ℕ → ℕ → Store → Option (List ℕ) → Option (List ℕ) → Refusal → Type 0
IsUnloaded first replicas start before after refusal =
    ((refusal ≡ Device) × IsCut before after)
    ⊎ ((refusal ≡ OutOfMemory) × (batch : Batch) × IsLoaded first replicas start before after batch)

-- rule: loaded-first
-- what the changes come to, over what was held before, or why they aren't loaded
abbrev pub HasLoaded : ℕ → ℕ → Store → Option (List ℕ) → Option (List ℕ) → Result Batch End → Type 0
HasLoaded first replicas start before after (Ok batch) = IsLoaded first replicas start before after batch
HasLoaded first replicas start before after (Err (Line line refusal)) = IsWrongLine before after line refusal ⊎ IsRefused first replicas start before after refusal
HasLoaded first replicas start before after (Err (Refused refusal)) = IsUnloaded first replicas start before after refusal
HasLoaded first replicas start before after (Err Streams) = ⊥
HasLoaded first replicas start before after (Err Stopped) = ⊥

-- rule: loaded-first
-- why a file isn't loaded that was read to its end: by the line of the change that is refused, if one is; or for want of memory
abbrev pub end_by : Option (ℕ × Refusal) → End
end_by (Some refused) = Line refused.0 refused.1
end_by None = Refused OutOfMemory
