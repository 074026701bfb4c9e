-- The greatest write of a name in a list of writes. This project's own.
--     greater          the greater of two writes, where each may be missing
--     if_named         the write, if it has the name
--     best             the greatest write of the name in the list
--     IsGreatest       a write of the name that stands in the list, and below no other write of the name there
--     BestIsGreatest   what `best` is, in other words
--     SameWrites       the two lists hold the same writes, in whatever order and however often
--     BestOfBoth       the best of two lists is the greater of the best of each
use Rattle.std.specs.Prelude.{◌≡◌, ◌≢◌, ◌↔◌, ℕ, List, [], ◌∷◌, ◌++◌, bytes_eq, Option, Some, None, Contains, if◌then◌else◌, MatchOption}
use Rattle.std.specs.declared.cmp.Ordering.TheVariants.{Greater}
use Rattle.std.specs.Ordering.{ord_max}
use Rattle.xds_resource.specs.Writes.{StampedWrite, write_cmp}

-- rule: greatest-write
-- the greater of two writes, where each may be missing
abbrev pub greater : Option StampedWrite → Option StampedWrite → Option StampedWrite
greater None b = b
greater (Some v) None = Some v
greater (Some v) (Some w) = Some (ord_max write_cmp v w)

-- the write, if it has the name
abbrev pub if_named : List ℕ → StampedWrite → Option StampedWrite
if_named name w = if bytes_eq w.name name then Some w else None

-- rule: greatest-write
-- the greatest write of the name in the list
abbrev pub best : List StampedWrite → List ℕ → Option StampedWrite
best [] name = None
best (w ∷ ws) name = greater (if_named name w) (best ws name)

-- rule: greatest-write
-- a write of the name that stands in the list, and below no other write of the name there
pub record IsGreatest (ws : List StampedWrite) (name : List ℕ) (w : StampedWrite) : Type 0 where
  pub listed : Contains ws w
  pub named : w.name ≡ name
  pub unsurpassed : (v : StampedWrite) → Contains ws v → v.name ≡ name → write_cmp v w ≢ Greater

-- rule: greatest-write
-- What `best` is, in other words: there is none where no write has the name, and else it is the greatest.
abbrev pub BestIsGreatest : List StampedWrite → List ℕ → Type 0
BestIsGreatest ws name = MatchOption (best ws name) ((v : StampedWrite) → Contains ws v → v.name ≢ name) (IsGreatest ws name)

-- the two lists hold the same writes, in whatever order and however often
abbrev pub SameWrites : List StampedWrite → List StampedWrite → Type 0
SameWrites v w = (x : StampedWrite) → Contains v x ↔ Contains w x

-- rule: greatest-write
-- The best of two lists is the greater of the best of each.
abbrev pub BestOfBoth : List StampedWrite → List StampedWrite → List ℕ → Type 0
BestOfBoth v w name = best (v ++ w) name ≡ greater (best v name) (best w name)
