-- Which writes of a list add or replace an entry, and how many do. This project's own.
--     surpasses       greater than what is held, or the first
--     is_news         a write that changes what is held, after the writes before it
--     changes_after   the number of writes that are greater than all before them of their name
--     changes_of      the same, where nothing came before
--     change_list     the changes that the writes make, the latest first
--     NoneChanges     no write of the list changes the entry of this name, where others came before the list
--     IsLastChange    the write that comes after front changes the entry of this name, none after it does
use Rattle.std.specs.Prelude.{◌≡◌, ℕ, ◌+◌, List, [], ◌∷◌, ◌++◌, Bool, true, false, Option, Some, None, if◌then◌else◌}
use Rattle.std.specs.Ordering.{is_gt}
use Rattle.xds_resource.specs.Writes.{StampedWrite, write_cmp}
use Rattle.xds_resource.specs.Best.{best}

-- rule: greatest-write
-- greater than what is held, or the first
abbrev pub surpasses : StampedWrite → Option StampedWrite → Bool
surpasses w None = true
surpasses w (Some held) = is_gt (write_cmp w held)

-- rule: greatest-write
-- a write that changes what is held, after the writes before it
abbrev pub is_news : List StampedWrite → StampedWrite → Bool
is_news before w = surpasses w (best before w.name)

-- the number of writes that are greater than all before them of their name, where others came before the list
abbrev pub changes_after : List StampedWrite → List StampedWrite → ℕ
changes_after before [] = 0
changes_after before (w ∷ ws) = (if is_news before w then 1 else 0) + changes_after (before ++ w ∷ []) ws

-- the same, where nothing came before
abbrev pub changes_of : List StampedWrite → ℕ
changes_of ws = changes_after [] ws

-- The changes that the writes make, the latest first. Each has the name of the entry that it changed, and how many changes there were up to and with it: `changes` of them before the list.
abbrev pub change_list : List StampedWrite → ℕ → List StampedWrite → List (List ℕ × ℕ)
change_list before changes [] = []
change_list before changes (w ∷ ws) =
    change_list (before ++ w ∷ []) (changes + (if is_news before w then 1 else 0)) ws ++ (if is_news before w then (w.name, changes + 1) ∷ [] else [])

-- no write of the list changes the entry of this name, where others came before the list
abbrev pub NoneChanges : List StampedWrite → List StampedWrite → List ℕ → Type 0
NoneChanges before ws name = (front : List StampedWrite) (w : StampedWrite) (back : List StampedWrite) → ws ≡ front ++ w ∷ back → w.name ≡ name → is_news (before ++ front) w ≡ false

-- The write that comes after front changes the entry of this name, none after it does, and with it the list makes this many changes.
pub record IsLastChange (before ws : List StampedWrite) (name : List ℕ) (number : ℕ) : Type 0 where
  pub front : List StampedWrite
  pub write : StampedWrite
  pub back : List StampedWrite
  pub splits : ws ≡ front ++ write ∷ back
  pub named : write.name ≡ name
  pub changes : is_news (before ++ front) write ≡ true
  pub last : NoneChanges (before ++ front ++ write ∷ []) back name
  pub counts : number ≡ changes_after before (front ++ write ∷ [])
