-- What a replica holds, as lines of the server's input. This project's own.
--     groups_behind   groups, each behind a comma
--     groups_word   the groups of a resource, as a word of a line
--     put_line      the line that puts a resource at a replica, for its groups
use Rattle.std.specs.Prelude.{ℕ, List, [], ◌∷◌, ◌++◌, codes, decimal}

-- groups, each behind a comma
abbrev pub groups_behind : List (List ℕ) → List ℕ
groups_behind [] = []
groups_behind (g ∷ gs) = codes "," ++ (g ++ groups_behind gs)

-- the groups of a resource, as a word of a line
abbrev pub groups_word : List (List ℕ) → List ℕ
groups_word [] = []
groups_word (g ∷ gs) = g ++ groups_behind gs

-- the line that puts a resource at a replica, for its groups
abbrev pub put_line : ℕ → List (List ℕ) → List ℕ → List ℕ
put_line replica [] body = codes "put " ++ (decimal replica ++ (codes " " ++ (body ++ codes "\n")))
put_line replica (g ∷ gs) body =
    codes "putin " ++ (decimal replica ++ (codes " " ++ (groups_word (g ∷ gs) ++ (codes " " ++ (body ++ codes "\n")))))
