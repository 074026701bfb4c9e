-- Counts of changes as a text, and the pieces of a text. This project's own.
--     dot           what stands between two counts
--     marks_text    counts of changes as a text
--     pieces_in     the pieces of a text between marks, if there is a text
--     split_first   the first piece, and the pieces behind it
--     most_count    the greatest count
--     count_of      the count that is the first piece, and the pieces behind it
--     count_first   the count that pieces begin with, and the pieces behind it
--     marks_if_over   these counts, where nothing stands behind them
--     marks_by      counts of changes, one a piece
--     marks_in      the counts of changes that a text says, if it says any
use Rattle.std.specs.Prelude.{ℕ, List, [], ◌∷◌, ◌++◌, Option, Some, None, codes, decimal, if◌then◌else◌}
use Rattle.std.specs.Option.{option_map, option_and_then}
use Rattle.xds_events.specs.declared.catalogues.Marks.{Marks}
use Rattle.xds_script.specs.Lines.{pieces}
use Rattle.xds_script.specs.Words.{number_in, is_empty}

-- what stands between two counts
abbrev pub dot : ℕ
dot = 46

-- counts of changes as a text
abbrev pub marks_text : Marks → List ℕ
marks_text m =
    decimal m.cluster ++ (codes "." ++ (decimal m.endpoint ++ (codes "." ++ (decimal m.listener ++ (codes "." ++ (decimal m.route ++ (codes "." ++ decimal m.secret)))))))

-- the pieces of a text between marks, if there is a text
abbrev pub pieces_in : ℕ → Option (List ℕ) → List (List ℕ)
pieces_in mark None = []
pieces_in mark (Some text) = pieces mark text

-- the first piece, and the pieces behind it
abbrev pub split_first : List (List ℕ) → Option (List ℕ × List (List ℕ))
split_first [] = None
split_first (p ∷ ps) = Some (p, ps)

-- the greatest count
abbrev pub most_count : ℕ
most_count = 18446744073709551615

-- the count that is the first piece, and the pieces behind it
abbrev pub count_of : List ℕ × List (List ℕ) → Option (ℕ × List (List ℕ))
count_of p = option_map (λ n. (n, p.1)) (number_in 0 most_count p.0)

-- the count that pieces begin with, and the pieces behind it
abbrev pub count_first : List (List ℕ) → Option (ℕ × List (List ℕ))
count_first ps = option_and_then count_of (split_first ps)

-- these counts, where nothing stands behind them
abbrev pub marks_if_over : ℕ → ℕ → ℕ → ℕ → ℕ → List (List ℕ) → Option Marks
marks_if_over cluster endpoint listener route secret ps =
    if is_empty ps then Some (record { cluster = cluster; endpoint = endpoint; listener = listener; route = route; secret = secret }) else None

-- counts of changes, one a piece
abbrev pub marks_by : List (List ℕ) → Option Marks
marks_by ps =
    option_and_then
    (λ c. option_and_then
    (λ e. option_and_then
    (λ l. option_and_then
    (λ r. option_and_then (λ s. marks_if_over c.0 e.0 l.0 r.0 s.0 s.1) (count_first r.1))
    (count_first l.1))
    (count_first e.1))
    (count_first c.1))
    (count_first ps)

-- the counts of changes that a text says, if it says any
abbrev pub marks_in : List ℕ → Option Marks
marks_in text = marks_by (pieces dot text)
