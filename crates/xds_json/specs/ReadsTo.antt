-- What tokens read as, in order, whatever more depth the grammar allows. For private clauses.
--     ReadsTo                  tokens read as this value, and leave the rest
--     ItemsReadTo              tokens read as these items, and leave the rest
--     MembersReadTo            tokens read as these members, and leave the rest
use Rattle.std.specs.Prelude.{◌≡◌, ◌≤◌, ℕ, List, length, Some}
use Rattle.json.specs.Token.{Token}
use Rattle.json.specs.Json.{items, members, value}
use Rattle.serde_json.specs.Data.{Data, Items, Members, no_members}
use Rattle.serde_json.specs.Read.{of_json, of_items, of_members, converted}

abbrev pub ReadsTo : ℕ → List Token → Data → List Token → Type 0
ReadsTo depth old d new = (b : ℕ) → depth ≤ b → converted of_json (value b old) ≡ Some (d, new)

abbrev pub ItemsReadTo : ℕ → List Token → Items → List Token → Type 0
ItemsReadTo depth old ds new = (b : ℕ) → depth ≤ b → converted of_items (items (value b) (length old) old) ≡ Some (ds, new)

abbrev pub MembersReadTo : ℕ → List Token → Members → List Token → Type 0
MembersReadTo depth old ds new = (b : ℕ) → depth ≤ b → converted (λ ms. of_members ms no_members) (members (value b) (length old) old) ≡ Some (ds, new)
