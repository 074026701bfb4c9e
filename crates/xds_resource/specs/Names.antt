-- Finite maps from names, and how they are made. This project's own.
--     pairs      texts with values, the texts as their bytes
--     put_some   the map, with a value at the name if there is one to put
--     tabulate   the map that has at each of these names what f has there
--     put_all    a map after what f makes of each of some entries was put at its name
--     put_each   a map after what f makes of each of some names was put at it
use Rattle.std.specs.Prelude.{ℕ, List, [], ◌∷◌, map, Option, Some, None, String, string_bytes}
use Rattle.std.specs.FinMap as finmap
use Rattle.xds_resource.specs.Writes.{text_cmp}

-- texts with values, the texts as their bytes
abbrev pub pairs : {Y X : Type 0} → List (String Y × X) → List (List ℕ × X)
pairs es = map (λ e. (string_bytes e.0, e.1)) es

-- the map, with a value at the name if there is one to put
abbrev pub put_some : {X : Type 0} → finmap.FinMap text_cmp X → List ℕ → Option X → finmap.FinMap text_cmp X
put_some m name None = m
put_some m name (Some x) = finmap.insert m name x

-- the map that has at each of these names what f has there
abbrev pub tabulate : {X : Type 0} → (List ℕ → Option X) → List (List ℕ) → finmap.FinMap text_cmp X
tabulate f [] = finmap.empty
tabulate f (name ∷ names) = put_some (tabulate f names) name (f name)

-- a map after what f makes of each of some entries was put at its name
abbrev pub put_all : {X Y : Type 0} → (List ℕ → X → Option Y) → finmap.FinMap text_cmp Y → List (List ℕ × X) → finmap.FinMap text_cmp Y
put_all f m [] = m
put_all f m (e ∷ es) = put_all f (put_some m e.0 (f e.0 e.1)) es

-- a map after what f makes of each of some names was put at it
abbrev pub put_each : {Y : Type 0} → (List ℕ → Option Y) → finmap.FinMap text_cmp Y → List (List ℕ) → finmap.FinMap text_cmp Y
put_each f m [] = m
put_each f m (n ∷ ns) = put_each f (put_some m n (f n)) ns
