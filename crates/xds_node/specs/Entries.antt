-- Records with their numbers, and lists of them: counted, and weighed. This project's own.
--     Entry         a record with its number
--     numbered      the records under the numbers from this one on
--     records_of    the records of these entries, without their numbers
--     Counted       the numbers of these entries go up by one from this one on
--     AllBelow      each entry has a number below this one
--     IsBeginning   the one list is a beginning of the other
--     weigh         the weights of all elements, added up
--     SameEach      each element stands in one list as often as in the other
use Rattle.std.specs.Prelude.{◌≡◌, ℕ, ◌+◌, ◌<◌, List, [], ◌∷◌, ◌++◌, map, All}

-- a record with its number
abbrev pub Entry : Type 0 → Type 0
Entry E = ℕ × E

-- the records under the numbers from this one on
abbrev pub numbered : {E : Type 0} → ℕ → List E → List (ℕ × E)
numbered n [] = []
numbered n (r ∷ rs) = (n, r) ∷ numbered (n + 1) rs

-- the records of these entries, without their numbers
abbrev pub records_of : {E : Type 0} → List (ℕ × E) → List E
records_of entries = map (λ e. e.1) entries

-- the numbers of these entries go up by one from this one on
abbrev pub Counted : {E : Type 0} → ℕ → List (ℕ × E) → Type 0
Counted n [] = Unit {0}
Counted n (e ∷ es) = (e.0 ≡ n) × Counted (n + 1) es

-- each entry has a number below this one
abbrev pub AllBelow : {E : Type 0} → ℕ → List (ℕ × E) → Type 0
AllBelow n entries = All (λ e. e.0 < n) entries

-- the one list is a beginning of the other
abbrev pub IsBeginning : {X : Type 0} → List X → List X → Type 0
IsBeginning {X} front all = (rear : List X) × (all ≡ front ++ rear)

-- the weights of all elements, added up
abbrev pub weigh : {X : Type 0} → (X → ℕ) → List X → ℕ
weigh h [] = 0
weigh h (x ∷ xs) = h x + weigh h xs

-- each element stands in one list as often as in the other: however they are weighed, both lists weigh the same
abbrev pub SameEach : {X : Type 0} → List X → List X → Type 0
SameEach {X} xs ys = (h : X → ℕ) → weigh h xs ≡ weigh h ys
