-- Which change of a catalogue's entries comes next after a number. This project's own.
--     NoneAfter      no entry's latest change is above this number
--     IsNextChange   the write w stands, its number is above this one
use Rattle.std.specs.Prelude.{◌≡◌, ℕ, ◌<◌, ◌≤◌, List, Some, IfSome}
use Rattle.std.specs.FinMap as finmap
use Rattle.xds_resource.specs.Writes.{StampedWrite}
use Rattle.xds_catalogue.specs.Holdings.{Holdings}

-- rule: marks
-- no entry's latest change is above this number
abbrev pub NoneAfter : Holdings → ℕ → Type 0
NoneAfter h after = (name : List ℕ) → IfSome (finmap.get h.latest name) (λ k. k ≤ after)

-- rule: marks
-- The write w stands, its number is above this one, and no entry's latest change lies between the two.
pub record IsNextChange (h : Holdings) (after number : ℕ) (w : StampedWrite) : Type 0 where
  pub stands : finmap.get h.entries w.name ≡ Some w
  pub numbered : finmap.get h.latest w.name ≡ Some number
  pub above : after < number
  pub least : (name : List ℕ) → IfSome (finmap.get h.latest name) (λ k. after < k → number ≤ k)
