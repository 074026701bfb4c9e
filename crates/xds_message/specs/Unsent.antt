-- What is left to be written of a response's frame. This project's own.
--     texts_behind   texts with commas between them, behind others or as the first
--     left_at        what is left of stored texts behind a place in them
--     FitsNext       no more was passed than the next text and the comma before it
--     IsPlaceIn      a place in stored texts that a frame has room for
--     all_of         the items of a list, if there is one
--     IsFrontOf      bytes come first among all, and there are some where there are any
--     IsHeld         a block lacks nothing that could stand in it
use Rattle.std.specs.Prelude.{◌≡◌, ◌≤◌, ℕ, List, [], ◌∷◌, ◌++◌, Bool, true, false, map, length, take, drop, Option, Some, None}
use Rattle.xds_frames.specs.Frames.{longest}
use Rattle.xds_message.specs.declared.filling.TextPlace.{TextPlace}
use Rattle.xds_message.specs.Joined.{behind_commas, with_commas}
use Rattle.xds_message.specs.Pieces.{comma_before}

-- texts with commas between them, behind others or as the first
abbrev pub texts_behind : Bool → List (List ℕ) → List ℕ
texts_behind false texts = with_commas texts
texts_behind true texts = behind_commas texts

-- what is left of stored texts behind a place in them
abbrev pub left_at : {A : Type 0} → (A → List ℕ) → List A → TextPlace → List ℕ
left_at text items at = drop at.offset (texts_behind at.later (map text (drop at.next items)))

-- no more was passed than the next text and the comma before it
abbrev pub FitsNext : Bool → List (List ℕ) → ℕ → Type 0
FitsNext later [] offset = offset ≡ 0
FitsNext later (text ∷ texts) offset = offset ≤ length (comma_before later ++ text)

-- a place in stored texts that a frame has room for
pub record IsPlaceIn {A : Type 0} (text : A → List ℕ) (items : List A) (at : TextPlace) : Type 0 where
  pub fits : FitsNext at.later (map text (drop at.next items)) at.offset
  pub bounded : length (texts_behind at.later (map text (drop at.next items))) ≤ longest

-- the items of a list, if there is one
abbrev pub all_of : {A B : Type 0} → (A → List B) → Option A → List B
all_of items None = []
all_of items (Some list) = items list

-- Bytes come first among all, and there are some where there are any.
pub record IsFrontOf (xs all : List ℕ) : Type 0 where
  pub front : take (length xs) all ≡ xs
  pub fits : length xs ≤ length all
  pub none : length xs ≤ 0 → length all ≤ 0

-- A block lacks nothing that could stand in it: where all of it and of the joined text was passed, nothing is left; and one without
-- room has nothing to take.
pub record IsHeld (block : List ℕ) (capacity at : ℕ) (joined rest : List ℕ) : Type 0 where
  pub within : at ≤ length block
  pub drained : length block ≤ at → length joined ≡ 0 → rest ≡ []
  pub has_room : capacity ≡ 0 → rest ≡ []
