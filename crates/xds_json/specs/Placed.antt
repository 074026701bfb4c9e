-- Where a member belongs among others. For private clauses.
--     Entry     a member of an object that was read
--     placed    the members, with j at k
--     IsPlace   the key comes after the one before this place, and before those from it on
use Rattle.std.specs.Prelude.{◌≡◌, ◌≤◌, ℕ, suc, List, length, get_or, drop}
use Rattle.std.specs.Borrow.{Bor}
use Rattle.std.specs.List.{AllByRecursion}
use Rattle.std.specs.Ordering.{nat_cmp, match_ordering}
use Rattle.std.specs.declared.cmp.Ordering.TheVariants.{Less}
use Rattle.std.specs.Cmp.Lexicographic.{slice_cmp}
use Rattle.std.specs.declared.alloc.Global.{Global}
use Rattle.json.specs.Json.{Json, Members, no_members, member}
use Rattle.json.specs.declared.value.Value.{Value}

-- a member of an object that was read
abbrev pub Entry : Type 0
Entry = Bor (List ℕ) × Value Global

-- the members, with j at k
abbrev pub placed : List ℕ → Json → Members → Members
placed k j no_members = member k j no_members
placed k j (member l i ms) = match_ordering (slice_cmp nat_cmp k l) (member k j (member l i ms)) (member l j ms) (member l i (placed k j ms))

-- the key comes after the one before this place, and before those from it on
pub record IsPlace (k : List ℕ) (es : List Entry) (at : ℕ) : Type 0 where
  pub within : at ≤ length es
  pub after : (i : ℕ) → at ≡ suc i → (e : Entry) → slice_cmp nat_cmp (get_or es i e).0.now k ≡ Less
  pub before : AllByRecursion (λ e. slice_cmp nat_cmp k e.0.now ≡ Less) (drop at es)
