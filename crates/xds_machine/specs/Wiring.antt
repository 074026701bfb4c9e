-- What replicas are joined by, whatever the ends are. This project's own.
--     given         what a replica gets, if it does
--     Adds          there is a replica more, which isn't joined to the others
--     GainsSend     a replica has one end more to tell by, where it tells
--     GainsTake     a replica has one end more to be told by, where it is told
--     Gains         a replica has one end more to tell by where it is this one, and one more to be told by where it is that one
--     AllChange     as many replicas, of which each has changed so
--     Joins         one replica tells another by these ends, and all else stays
--     IsAlone       a replica is joined to no other
--     Stays         a replica is started with what it was to be started with, but for its ends
--     Tells         a replica has an end by which it tells another
--     AreJoined     each replica tells each other, each end leads to another replica, and there is one for each
--     AreOrdered    each replica has the sender of its place, by which its changes come
--     IsWired       a replica for each of these sockets, in order, each with its sender, and joined to each other
use Rattle.std.specs.Prelude.{◌≡◌, ◌≢◌, ◌==◌, ◌+◌, ℕ, List, [], ◌∷◌, ◌++◌, length, map, slice_get, Bool, Some, if◌then◌else◌, Contains}
use Rattle.std.specs.List.{AllZip}
use Rattle.xds_machine.specs.declared.wires.Bound.{Bound}
use Rattle.xds_machine.specs.declared.wires.Wires.{Wires}

-- what a replica gets, if it does
abbrev pub given : {X : Type 0} → Bool → X → List X
given is_its x = if is_its then x ∷ [] else []

module _ {L I C S T : Type 0} where
  -- there is a replica more, which isn't joined to the others
  pub record Adds (socket : L) (sender : I) (orders : C) (old new : Wires L I C S T) : Type 0 where
    pub replica : Bound L C S T
    pub sockets : replica.sockets ≡ socket
    pub changes : replica.changes ≡ orders
    pub sends : replica.sends.items ≡ []
    pub takes : replica.takes.items ≡ []
    pub senders : new.senders.items ≡ old.senders.items ++ sender ∷ []
    pub replicas : new.replicas.items ≡ old.replicas.items ++ replica ∷ []

module _ {L C S T : Type 0} where
  -- a replica has one end more to tell by, where it tells
  pub record GainsSend (tells : Bool) (s : S) (old new : Bound L C S T) : Type 0 where
    pub sockets : new.sockets ≡ old.sockets
    pub changes : new.changes ≡ old.changes
    pub sends : new.sends.items ≡ old.sends.items ++ given tells s
    pub takes : new.takes ≡ old.takes

  -- a replica has one end more to be told by, where it is told
  pub record GainsTake (is_told : Bool) (t : T) (old new : Bound L C S T) : Type 0 where
    pub sockets : new.sockets ≡ old.sockets
    pub changes : new.changes ≡ old.changes
    pub sends : new.sends ≡ old.sends
    pub takes : new.takes.items ≡ old.takes.items ++ given is_told t

  -- a replica has one end more to tell by where it tells, and one more to be told by where it is told
  pub record Gains (tells is_told : Bool) (s : S) (t : T) (old new : Bound L C S T) : Type 0 where
    pub sockets : new.sockets ≡ old.sockets
    pub changes : new.changes ≡ old.changes
    pub sends : new.sends.items ≡ old.sends.items ++ given tells s
    pub takes : new.takes.items ≡ old.takes.items ++ given is_told t

  -- as many replicas, of which each has changed so
  pub record AllChange (Changes : ℕ → Bound L C S T → Bound L C S T → Type 0) (old new : List (Bound L C S T)) : Type 0 where
    pub count : length new ≡ length old
    pub each : (k : ℕ) (b c : Bound L C S T) → slice_get old k ≡ Some b → slice_get new k ≡ Some c → Changes k b c

  -- one replica tells another by these ends, and all else stays
  abbrev pub Joins : ℕ → ℕ → S → T → List (Bound L C S T) → List (Bound L C S T) → Type 0
  Joins from to s t old new = AllChange (λ k. Gains (k == from) (k == to) s t) old new

  -- a replica is joined to no other
  abbrev pub IsAlone : Bound L C S T → Type 0
  IsAlone b = (b.sends.items ≡ []) × (b.takes.items ≡ [])

  -- a replica is started with what it was to be started with, but for its ends
  abbrev pub Stays : Bound L C S T → Bound L C S T → Type 0
  Stays b c = (c.sockets ≡ b.sockets) × (c.changes ≡ b.changes)

  -- a replica has an end by which it tells another
  abbrev pub Tells : (S → T → Type 0) → Bound L C S T → Bound L C S T → Type 0
  Tells linked b c = (s : S) × (t : T) × Contains b.sends.items s × Contains c.takes.items t × linked s t

  -- each replica tells each other, each end leads to another replica, and there is one for each
  pub record AreJoined (linked : S → T → Type 0) (replicas : List (Bound L C S T)) : Type 0 where
    pub each : (i j : ℕ) (b c : Bound L C S T) → i ≢ j → slice_get replicas i ≡ Some b → slice_get replicas j ≡ Some c → Tells linked b c
    pub told : (i : ℕ) (b : Bound L C S T) (s : S) → slice_get replicas i ≡ Some b → Contains b.sends.items s
        → (j : ℕ) × (c : Bound L C S T) × (t : T) × (i ≢ j) × (slice_get replicas j ≡ Some c) × Contains c.takes.items t × linked s t
    pub heard : (j : ℕ) (c : Bound L C S T) (t : T) → slice_get replicas j ≡ Some c → Contains c.takes.items t
        → (i : ℕ) × (b : Bound L C S T) × (s : S) × (i ≢ j) × (slice_get replicas i ≡ Some b) × Contains b.sends.items s × linked s t
    pub once : (i : ℕ) (b : Bound L C S T) → slice_get replicas i ≡ Some b → (length b.sends.items + 1 ≡ length replicas) × (length b.takes.items + 1 ≡ length replicas)

-- each replica has the sender of its place, by which its changes come
abbrev pub AreOrdered : {L I C S T : Type 0} → (I → C → Type 0) → List I → List (Bound L C S T) → Type 0
AreOrdered ordered senders replicas = AllZip (λ s b. ordered s b.changes) senders replicas

-- a replica for each of these sockets, in order, each with its sender, and joined to each other
pub record IsWired {L I C S T : Type 0} (ordered : I → C → Type 0) (linked : S → T → Type 0) (all : List L) (w : Wires L I C S T) : Type 0 where
  pub sockets : map (λ b. b.sockets) w.replicas.items ≡ all
  pub senders : length w.senders.items ≡ length all
  pub ordered_by : AreOrdered ordered w.senders.items w.replicas.items
  pub joined : AreJoined linked w.replicas.items
