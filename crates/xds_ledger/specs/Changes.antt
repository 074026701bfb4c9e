-- What changes of what is believed, name by name: the answers of the functions that find it. This project's own.
--     Changes            for some names what is believed of them from now on
--     believed_now       what is believed of a name once the changes are made
--     Lead               the changes lead from what is believed to what is believed after
--     changes_told       by an accepted response that isn't the whole: of each name of which it speaks
--     changes_answered   by an answer, where the response isn't the whole or is rejected
--     left_touched       of a touched name that isn't mentioned
--     changes_left       and so with each of some names
--     changes_unsure     of each of some names that a request mentions
--     change_as          of a name that a client says it holds at a version
use Rattle.std.specs.Prelude.{◌≡◌, ℕ, List, [], ◌∷◌, Bool, ◌&&◌, Option, Some, None, is_some, unwrap_or, option_map, if◌then◌else◌}
use Rattle.std.specs.FinMap as finmap
use Rattle.xds_resource.specs.Writes.{text_cmp}
use Rattle.xds_resource.specs.Names.{put_all, put_each}
use Rattle.xds_interest.specs.Interests.{Selection, reaches}
use Rattle.xds_interest.specs.Touches.{Touch}
use Rattle.xds_ledger.specs.declared.entry.Entry.{Entry}
use Rattle.xds_ledger.specs.declared.entry.Entry.TheVariants.{Told, Unsure}
use Rattle.xds_ledger.specs.Owed.{Beliefs}
use Rattle.xds_ledger.specs.Believing.{Sent, was_touched}
use Rattle.xds_ledger.specs.Parts.{told_unless_touched, made_unsure}

-- for some names what is believed of them from now on
abbrev pub Changes : Type 0
Changes = finmap.FinMap text_cmp (Option Entry)

-- what is believed of a name once the changes are made
abbrev pub believed_now : Changes → Beliefs → List ℕ → Option Entry
believed_now c b name = unwrap_or (finmap.get c name) (finmap.get b name)

-- the changes lead from what is believed to what is believed after
abbrev pub Lead : Changes → Beliefs → Beliefs → Type 0
Lead c b after = (name : List ℕ) → finmap.get after name ≡ believed_now c b name

-- by an accepted response that isn't the whole: of each name of which it speaks
abbrev pub changes_told : Sent → Changes
changes_told sent = put_all (λ name due. Some (told_unless_touched (was_touched sent name) due)) finmap.empty (finmap.entries sent.offer)

-- by an answer, where the response isn't the whole or is rejected
abbrev pub changes_answered : Sent → Bool → Changes
changes_answered sent rejects = if rejects then finmap.empty else changes_told sent

-- of a touched name that isn't mentioned
abbrev pub left_touched : Bool → Option Entry → Option Entry
left_touched reached before = if reached && is_some before then Some Unsure else None

-- and so with each of some names
abbrev pub changes_left : Selection → Beliefs → Changes → List (List ℕ) → Changes
changes_left s b c [] = c
changes_left s b c (n ∷ ns) = changes_left s b (finmap.insert c n (left_touched (reaches s n) (believed_now c b n))) ns

-- of each of some names that a request mentions
abbrev pub changes_unsure : Selection → Touch → Changes → List (List ℕ) → Changes
changes_unsure s touched c names = put_each (λ name. option_map Some (made_unsure s touched name)) c names

-- of a name that a client says it holds at a version
abbrev pub change_as : List ℕ → List ℕ → Option (Option Entry)
change_as name version = Some (Some (Told version))
