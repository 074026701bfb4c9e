-- The fingerprints of names that are gathered one by one. This project's own.
--     has       whether one is among them; where there are all, each is
--     Gains     what is gained by a list of names of a type
use Rattle.std.specs.Prelude.{◌≡◌, ℕ, ◌==◌, List, Bool, true, ◌||◌}
use Rattle.std.specs.List.{list_any}
use Rattle.xds_resource.specs.declared.types.TypeName.{TypeName}
use Rattle.xds_node.specs.Prints.{print}
use Rattle.xds_node.specs.Concerns.{lists_it}
use Rattle.xds_node.specs.declared.node.gathered.Gathered.{Gathered}

-- whether a fingerprint is among them; where there are all, each is
abbrev pub has : Gathered → ℕ → Bool
has g p = g.all || list_any (λ q. q == p) g.prints.items

-- rule: wake-ups
-- What is gained by a list of names of a type, in which the star stands for all: none is lost, and each of them is there.
pub record Gains (t : TypeName) (names : List (List ℕ)) (old new : Gathered) : Type 0 where
  pub kept : (p : ℕ) → has old p ≡ true → has new p ≡ true
  pub added : (name : List ℕ) → lists_it names name ≡ true → has new (print t name) ≡ true
