-- Lines that delete. This project's own.
--     is_apart       a byte that ends no word of a line
--     is_sayable     a name that can be said in a line: it is a word there
--     are_sayable    so is each of these
--     delete_line    the line that deletes a resource at a replica
--     deletions      the lines that delete resources of these names
--     delete_lines   the same, or why they can't be said
use Rattle.std.specs.Prelude.{ℕ, List, [], ◌∷◌, ◌++◌, ◌&&◌, ◌==◌, not, length, Bool, if◌then◌else◌, Result, Ok, Err, codes, decimal}
use Rattle.std.specs.List.{list_all}
use Rattle.xds_resource.specs.declared.refusal.Refusal.{Refusal}
use Rattle.xds_resource.specs.declared.refusal.Refusal.TheVariants.{BadName}
use Rattle.xds_resource.specs.Types.{row}
use Rattle.xds_resource.specs.declared.types.TypeName.{TypeName}

-- a byte that ends no word of a line: no space, line feed or carriage return
abbrev pub is_apart : ℕ → Bool
is_apart b = not (b == 32) && not (b == 10) && not (b == 13)

-- a name that can be said in a line: it is a word there
abbrev pub is_sayable : List ℕ → Bool
is_sayable name = not (length name == 0) && list_all is_apart name

-- so is each of these
abbrev pub are_sayable : List (List ℕ) → Bool
are_sayable names = list_all is_sayable names

-- the line that deletes a resource at a replica
abbrev pub delete_line : ℕ → TypeName → List ℕ → List ℕ
delete_line replica kind name = codes "delete " ++ (decimal replica ++ (codes " " ++ ((row kind).word ++ (codes " " ++ (name ++ codes "\n")))))

-- the lines that delete resources of these names
abbrev pub deletions : ℕ → TypeName → List (List ℕ) → List ℕ
deletions replica kind [] = []
deletions replica kind (name ∷ names) = delete_line replica kind name ++ deletions replica kind names

-- the same, or why they can't be said
abbrev pub delete_lines : ℕ → TypeName → List (List ℕ) → Result (List ℕ) Refusal
delete_lines replica kind names = if are_sayable names then Ok (deletions replica kind names) else Err BadName
