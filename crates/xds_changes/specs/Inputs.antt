-- What the lines of the server's input bring, as they come in pieces. This project's own.
--     brought      the write that was read, if any
--     brings       what a line changes, where it isn't wrong
--     is_wrong     a line that is neither skipped nor a change, or is too long
--     AreTaken     the lines bring these changes, and none of them is wrong
--     AreRefused   the first lines bring these changes, and the one behind so many of them is refused
--     AreEnded     a piece behind what is held of the last line: so many lines end in it, and what is left is held
--     Takes        what was taken of bytes: the lines that end there, or those before one that is refused
use Rattle.std.specs.Prelude.{◌≡◌, ◌⊎◌, ℕ, List, [], ◌∷◌, ◌++◌, length, Bool, false, All, Option, Some, None, Result, Ok, Err, is_err}
use Rattle.std.specs.Option.{option_to_list}
use Rattle.std.specs.List.{flat_map}
use Rattle.xds_resource.specs.declared.refusal.Refusal.{Refusal}
use Rattle.xds_resource.specs.declared.refusal.Refusal.TheVariants.{OutOfMemory}
use Rattle.xds_script.specs.Lines.{feed, pieces}
use Rattle.xds_changes.specs.Changes.{Written, change_in}

-- the write that was read, if any
abbrev pub brought : Result (Option Written) Refusal → List Written
brought (Ok change) = option_to_list change
brought (Err e) = []

-- what a line changes, where it isn't wrong
abbrev pub brings : List ℕ → List Written
brings line = brought (change_in line)

-- a line that is neither skipped nor a change, or is too long
abbrev pub is_wrong : List ℕ → Bool
is_wrong line = is_err (change_in line)

-- the lines bring these changes, and none of them is wrong
pub record AreTaken (lines : List (List ℕ)) (changes : List Written) : Type 0 where
  pub good : All (λ line. is_wrong line ≡ false) lines
  pub brought_are : changes ≡ flat_map brings lines

-- the first lines bring these changes, and the one behind so many of them is refused, as its bytes call for; or there was no memory
pub record AreRefused (lines : List (List ℕ)) (changes : List Written) (count : ℕ) (refusal : Refusal) : Type 0 where
  pub before : List (List ℕ)
  pub refused : List ℕ
  pub behind : List (List ℕ)
  pub lines_are : lines ≡ before ++ refused ∷ behind
  pub taken : AreTaken before changes
  pub count_is : count ≡ length before
  pub why : (refusal ≡ OutOfMemory) ⊎ (change_in refused ≡ Err refusal)

-- a piece behind what is held of the last line: so many lines end in it, and what is left is held
pub record AreEnded (bytes : List ℕ) (changes : List Written) (count : ℕ) (left : List ℕ) : Type 0 where
  pub lines : List (List ℕ)
  pub lines_are : pieces feed bytes ≡ lines ++ left ∷ []
  pub taken : AreTaken lines changes
  pub count_is : count ≡ length lines

-- what was taken of bytes: the lines that end there, or those before one that is refused
abbrev pub Takes : List ℕ → List Written → ℕ → Option Refusal → List ℕ → Type 0
Takes bytes changes count None left = AreEnded bytes changes count left
Takes bytes changes count (Some refusal) left = AreRefused (pieces feed bytes) changes count refusal
