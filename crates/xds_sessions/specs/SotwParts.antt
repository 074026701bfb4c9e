-- How a response is made, name by name: the answers of the functions that make it. This project's own.
--     all_texts    the texts of some writes behind others
--     body_at      the text of what is live under a name, and covered
--     pushed_each  some texts, with that of each of some names behind them
use Rattle.std.specs.Prelude.{ℕ, List, [], ◌∷◌, if◌then◌else◌, Option, None}
use Rattle.std.specs.Option.{option_and_then}
use Rattle.std.specs.FinMap as finmap
use Rattle.xds_resource.specs.Writes.{StampedWrite}
use Rattle.xds_message.specs.Drafts.{with_text}
use Rattle.xds_interest.specs.Interests.{Selection, covers}
use Rattle.xds_catalogue.specs.Holdings.{Entries}

-- the texts of some writes behind others
abbrev pub all_texts : List (List ℕ) → List StampedWrite → List (List ℕ)
all_texts bodies [] = bodies
all_texts bodies (w ∷ ws) = all_texts (with_text bodies w.body) ws

-- the text of what is live under a name, and covered
abbrev pub body_at : Entries → Selection → List ℕ → Option (List ℕ)
body_at m s name = option_and_then (λ w. if covers s name w.groups then w.body else None) (finmap.get m name)

-- some texts, with that of each of some names behind them
abbrev pub pushed_each : Entries → Selection → List (List ℕ) → List (List ℕ) → List (List ℕ)
pushed_each m s bodies [] = bodies
pushed_each m s bodies (n ∷ ns) = pushed_each m s (with_text bodies (body_at m s n)) ns
