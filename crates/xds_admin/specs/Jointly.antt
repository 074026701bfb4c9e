-- What a body of changes is answered that are looked at alone, or made together. This project's own.
--     Said           a line that says something: its number, and the place of its replica, from 0, or why it is refused
--     are_any_mixed  whether changes of replicas are of several, where there are some of another or aren't
--     unknown        what becomes of a change of which nothing is answered
--     made_at        what becomes of a change of a replica, by the places of both, from 0
--     next_made      what becomes of the next change of a replica, where so many of each are told
--     next_places    how many of each are told then
--     is_good        whether a change is made, or would be
--     stored_line    the line of a change that was made, and is stored or isn't, or wasn't made
--     Told           how many were made, or would be, how many weren't, and the lines of them
--     told_more      the same with a line more
--     one_told       whether a line is of a change that is made, or would be, and what is told of it
--     places_after   how many changes of each replica are told behind a line
--     all_told       what is told of lines, behind what was told before
--     none_told      of each replica none is told
--     told_of        what is told of all lines, where nothing is told before
--     told_so_far    what the program has told
--     told_in        what is told of the lines of a body
use Rattle.std.specs.Prelude.{ℕ, ◌+◌, ◌^◌, ◌-◌, min, List, [], ◌∷◌, ◌++◌, slice_get, slice_set, Bool, true, false, if◌then◌else◌, None, Result, Ok, Err, map, string_bytes}
use Rattle.std.specs.Option.{option_map_or, unwrap_or, option_and_then}
use Rattle.xds_resource.specs.declared.refusal.Refusal.TheVariants.{Device}
use Rattle.xds_notes.specs.declared.fault.Fault.{Fault}
use Rattle.xds_changes.specs.declared.made.Made.{Made}
use Rattle.xds_changes.specs.declared.made.Made.TheVariants.{Written, Would, Refused, Left}
use Rattle.xds_changes.specs.Together.{made_line}
use Rattle.xds_checker.specs.Checked.{told_line}
use Rattle.xds_upkeep.specs.Lines.{unstored_line}
use Rattle.xds_admin.specs.declared.joint.Joint.{Joint}
use Rattle.xds_admin.specs.declared.joint.JointTelling.{JointTelling}

-- a line that says something: its number, and the place of its replica, from 0, or why it is refused
abbrev pub Said : Type 0
Said = ℕ × Result ℕ Fault

-- whether changes of replicas are of several, where there are some of another or aren't
abbrev pub are_any_mixed : {A : Type 0} → Bool → List (List A) → Bool
are_any_mixed others [] = false
are_any_mixed others ([] ∷ css) = are_any_mixed others css
are_any_mixed others ((c ∷ cs) ∷ css) = if others then true else are_any_mixed true css

-- what becomes of a change of which nothing is answered
abbrev pub unknown : Made
unknown = Refused (record { refusal = Device; cause = None; long = None })

-- what becomes of a change of a replica, by the places of both, from 0
abbrev pub made_at : List (List Made) → ℕ → ℕ → Made
made_at made place k = unwrap_or (option_and_then (λ ms. slice_get ms k) (slice_get made place)) unknown

-- what becomes of the next change of a replica, where so many of each are told
abbrev pub next_made : List (List Made) → List ℕ → ℕ → Made
next_made made places place = option_map_or (made_at made place) (slice_get places place) unknown

-- how many of each are told then
abbrev pub next_places : List ℕ → ℕ → List ℕ
next_places places place = option_map_or (λ k. slice_set places place (min (k + 1) (2 ^ 64 - 1))) (slice_get places place) places

-- whether a change is made, or would be
abbrev pub is_good : Made → Bool
is_good (Written stamp) = true
is_good Would = true
is_good (Refused fault) = false
is_good Left = false

-- the line of a change that was made, and is stored or isn't, or wasn't made
abbrev pub stored_line : ℕ → Made → Bool → List ℕ
stored_line line (Written stamp) are_stored = if are_stored then made_line line (Written stamp) else unstored_line line stamp.counter stamp.writer
stored_line line Would are_stored = made_line line Would
stored_line line (Refused fault) are_stored = made_line line (Refused fault)
stored_line line Left are_stored = made_line line Left

-- how many were made, or would be, how many weren't, and the lines of them
pub record Told : Type 0 where
  pub good : ℕ
  pub bad : ℕ
  pub text : List ℕ

-- the same with a line more
abbrev pub told_more : Told → Bool × List ℕ → Told
told_more t one = record {
  good = if one.0 then min (t.good + 1) (2 ^ 64 - 1) else t.good;
  bad = if one.0 then t.bad else min (t.bad + 1) (2 ^ 64 - 1);
  text = t.text ++ one.1;
}

-- whether a line is of a change that is made, or would be, and what is told of it
abbrev pub one_told : List (ℕ × List ℕ) → List (List Made) → Bool → List ℕ → ℕ → Result ℕ Fault → Bool × List ℕ
one_told whys made are_stored places line (Ok place) = (is_good (next_made made places place), stored_line line (next_made made places place) are_stored)
one_told whys made are_stored places line (Err fault) = (false, told_line whys line fault)

-- how many changes of each replica are told behind a line
abbrev pub places_after : List ℕ → Result ℕ Fault → List ℕ
places_after places (Ok place) = next_places places place
places_after places (Err fault) = places

-- what is told of lines, behind what was told before
abbrev pub all_told : List (ℕ × List ℕ) → List (List Made) → Bool → List Said → List ℕ → Told → Told
all_told whys made are_stored [] places t = t
all_told whys made are_stored (l ∷ ls) places t =
    all_told whys made are_stored ls (places_after places l.1) (told_more t (one_told whys made are_stored places l.0 l.1))

-- of each replica none is told
abbrev pub none_told : List (List Made) → List ℕ
none_told made = map (λ _. 0) made

-- what is told of all lines, where nothing is told before
abbrev pub told_of : List (ℕ × List ℕ) → List (List Made) → Bool → List Said → Told
told_of whys made are_stored lines = all_told whys made are_stored lines (none_told made) (record { good = 0; bad = 0; text = [] })

-- what the program has told
abbrev pub told_so_far : JointTelling → Told
told_so_far t = record { good = t.good; bad = t.bad; text = string_bytes t.text }

-- what is told of the lines of a body
abbrev pub told_in : Joint → Bool → Told
told_in j are_stored = told_of (map (λ w. (w.0, string_bytes w.1)) j.whys.items) (map (λ v. v.items) j.made.items) are_stored j.lines.items
