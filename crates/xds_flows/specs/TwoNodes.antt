-- What an exchange of two replicas comes to: what each of its workers does, and what passes between them. This project's own.
--     Exchange     at who tells: what its seat was told, the tries that left no record
--     IsExchange   each worker does its part, and so ended
--     TellsAll     all of who tells, by what its seat was told and refused, what it had put and taken
--     MergesAll    and of who merges
use Rattle.std.specs.Prelude.{◌≡◌, ℕ, List, ◌++◌, Bool, Result}
use Rattle.xds_resource.specs.declared.refusal.Refusal.{Refusal}
use Rattle.xds_core.specs.Legal.{Record}
use Rattle.xds_exchange.specs.Ends.{Begins}
use Rattle.xds_flows.specs.declared.replication.exchange.Ended.{Ended}
use Rattle.xds_flows.specs.declared.replication.parcels.Receipt.{Receipt}
use Rattle.xds_flows.specs.Exchanging.{HasMerged, HasTold}

-- At who tells: what its seat was told, the tries that left no record, the parcels that it put and the receipts that it took. At who
-- merges: what its seat was told, the tries that left no record, the parcels that it took and the receipts that it put.
pub record Exchange : Type 0 where
  pub told : List (ℕ × Record)
  pub tried : List Record
  pub put : List (List ℕ × Bool)
  pub got : List Receipt
  pub merged : List (ℕ × Record)
  pub retried : List Record
  pub taken : List (List ℕ × Bool)
  pub given : List Receipt

-- Each worker does its part, and so ended. Of each channel what was taken is a beginning of what was put, in order. So many puts of
-- receipts had failed before and after.
pub record IsExchange (x : Exchange) (ended : Result Ended Refusal) (dropped failed after : ℕ) : Type 0 where
  pub tells : HasTold x.told x.tried x.put x.got ended
  pub merges : HasMerged x.merged x.retried x.taken x.given dropped failed after
  pub parcels : Begins x.taken x.put
  pub receipts : Begins x.got x.given

-- ---- their steps

-- all of who tells, by what its seat was told and refused, what it had put and taken, and how that is now
abbrev pub TellsAll : List (ℕ × Record) → List (ℕ × Record) → List Record → List Record → List (List ℕ × Bool) → List (List ℕ × Bool)
    → List Receipt → List Receipt → Result Ended Refusal → Type 0
TellsAll s0 s1 q0 q1 p0 p1 g0 g1 ended =
    (told : List (ℕ × Record)) × (tried : List Record) × (put : List (List ℕ × Bool)) × (got : List Receipt)
    × (s1 ≡ s0 ++ told) × (q1 ≡ q0 ++ tried) × (p1 ≡ p0 ++ put) × (g1 ≡ g0 ++ got) × HasTold told tried put got ended

-- and of who merges
abbrev pub MergesAll : List (ℕ × Record) → List (ℕ × Record) → List Record → List Record → List (List ℕ × Bool) → List (List ℕ × Bool)
    → List Receipt → List Receipt → ℕ → ℕ → ℕ → Type 0
MergesAll s0 s1 q0 q1 t0 t1 v0 v1 f0 f1 dropped =
    (told : List (ℕ × Record)) × (tried : List Record) × (taken : List (List ℕ × Bool)) × (given : List Receipt)
    × (s1 ≡ s0 ++ told) × (q1 ≡ q0 ++ tried) × (t1 ≡ t0 ++ taken) × (v1 ≡ v0 ++ given) × HasMerged told tried taken given dropped f0 f1
