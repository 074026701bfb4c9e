-- What the two threads between a pair of replicas do: one tells what changed, in parcels, and the other merges that and sends a receipt
-- for each batch. This project's own.
--     Turn                   one turn of who tells
--     IsSince                the entries above the marks were asked for
--     IsUnasked              or they were asked for in vain: no record is left, for this refusal
--     IsReceived             one receipt was taken where there was a parcel, and the marks are those that were told
--     IsWhole                what was told was put whole
--     IsToldAgain            no receipt was taken, and all is told again
--     IsGivenUp              the batch was given up: all is told again. A beginning of it was put.
--     IsCutOff               since the other end is gone: the batch was told, and a beginning of it was put
--     IsGivenUpFor           a turn that was given up for this refusal: refused, without a record, or without memory to put it
--     IsTurn                 a turn, whole or given up
--     Follows                each turn begins with the marks that the one before left
--     AreTurns               these are the turns, from a peer that knows nothing
--     IsLastTurn             what the last turn was
--     HasTold                all of who tells
--     TurnEnds               one turn, and how it ends: whole, or since the other end is gone, or for this refusal
--     Taking                 a parcel that was taken
--     IsMerge                its merge is recorded, of the batch that its frame spells
--     IsDrop                 or there is none: it was tried in vain, or never, where the frame wasn't read
--     IsTaking               a merge of it is recorded, or it is dropped
--     is_merged              whether all that was told of it was answered, and something was
--     lost_after             whether a part of the present batch was lost, after these parcels
--     receipt_for            the receipt of a batch
--     receipts_due           a receipt is due after the last parcel of each batch: merged where no part of it was lost
--     AreReceipts            all that were due were put, or the last one wasn't, since its put failed
--     HasMerged              all of who merges: the parcels in order, each merged or dropped
--     IsReason               why a batch isn't sent: the other end is gone, or there was no memory
--     given_up               what a turn answers whose batch isn't sent
--     Puts                   some parcels are put behind others, or a beginning of them
--     Settles                and one receipt is taken for them, if there are any
--     IsMerging              a parcel is merged or dropped, and whether a merge of it was answered
--     Acknowledges           after the last parcel of a batch its receipt is put, or its put failed
use Rattle.std.specs.Prelude.{◌≡◌, ◌≢◌, ◌⊎◌, ℕ, List, [], ◌∷◌, ◌++◌, map, All, Bool, true, false, ◌||◌, if◌then◌else◌, is_ok, not, Result, Ok, Err, ⊤}
use Rattle.std.specs.List.{flat_map, sum_by}
use Rattle.xds_resource.specs.declared.refusal.Refusal.{Refusal}
use Rattle.xds_resource.specs.declared.refusal.Refusal.TheVariants.{OutOfMemory}
use Rattle.xds_resource.specs.PerType.{PerType, each}
use Rattle.xds_resource.specs.Writes.{StampedWrite}
use Rattle.xds_core.specs.Events.{Since, Merge}
use Rattle.xds_core.specs.Legal.{Record}
use Rattle.xds_frames.specs.Devices.{MoreFailed}
use Rattle.xds_exchange.specs.Ends.{Begins}
use Rattle.xds_node.specs.Told.{LeavesNoRecord}
use Rattle.xds_flows.specs.declared.replication.exchange.Ended.{Ended}
use Rattle.xds_flows.specs.declared.replication.exchange.Ended.TheVariants.{Stopped, Unlinked}
use Rattle.xds_flows.specs.declared.replication.exchange.SendFailure.{SendFailure}
use Rattle.xds_flows.specs.declared.replication.exchange.SendFailure.TheVariants as unsent
use Rattle.xds_flows.specs.declared.replication.parcels.Receipt.{Receipt}
use Rattle.xds_flows.specs.declared.replication.parcels.Receipt.TheVariants.{Merged, Lost}
use Rattle.xds_node.specs.WorkersTold.{IsGranted, IsTriedBefore, IsTriedInVain}
use Rattle.xds_flows.specs.Parcels.{parcels_in, marks_in, IsFrameOf}

-- ---- who tells

-- One turn of who tells: the marks of the peer before it, what its seat was told, the tries that left no record, the parcels that were
-- put, the receipts that were taken, and the marks after it.
pub record Turn : Type 0 where
  pub marks : PerType ℕ
  pub told : List (ℕ × Record)
  pub tried : List Record
  pub put : List (List ℕ × Bool)
  pub receipts : List Receipt
  pub after : PerType ℕ

-- rule: marks
-- the entries above the marks were asked for
abbrev pub IsSince : Turn → ℕ × Record → Type 0
IsSince t entry = (t.told ≡ entry ∷ []) × (entry.1.event ≡ Since t.marks) × IsTriedBefore (Since t.marks) t.tried

-- or they were asked for in vain: no record is left, for this refusal
abbrev pub IsUnasked : Turn → Refusal → Type 0
IsUnasked t e = (t.told ≡ []) × (t.put ≡ []) × LeavesNoRecord e × IsTriedInVain (Since t.marks) e t.tried

-- rule: marks
-- One receipt was taken where there was a parcel, and the marks are those that were told; but where it was lost, all is told again.
abbrev pub IsReceived : Turn → ℕ × Record → Type 0
IsReceived t entry =
    ((t.put ≡ []) × (t.receipts ≡ []) × (t.after ≡ marks_in entry.1.answer))
    ⊎ (((t.put ≢ []) × (t.receipts ≡ Merged ∷ []) × (t.after ≡ marks_in entry.1.answer))
    ⊎ ((t.put ≢ []) × (t.receipts ≡ Lost ∷ []) × (t.after ≡ each 0)))

-- what was told was put whole
abbrev pub IsWhole : Turn → Type 0
IsWhole t = (entry : ℕ × Record) × IsSince t entry × IsGranted entry × (t.put ≡ parcels_in entry.1.answer) × IsReceived t entry

-- rule: marks
-- no receipt was taken, and all is told again
abbrev pub IsToldAgain : Turn → Type 0
IsToldAgain t = (t.receipts ≡ []) × (t.after ≡ each 0)

-- rule: marks
-- The batch was given up: all is told again. A beginning of it was put.
abbrev pub IsGivenUp : Turn → Type 0
IsGivenUp t =
    IsToldAgain t × (((e : Refusal) × IsUnasked t e) ⊎ ((entry : ℕ × Record) × IsSince t entry × Begins t.put (parcels_in entry.1.answer)))

-- since the other end is gone: the batch was told, and a beginning of it was put
abbrev pub IsCutOff : Turn → Type 0
IsCutOff t = IsToldAgain t × ((entry : ℕ × Record) × IsSince t entry × IsGranted entry × Begins t.put (parcels_in entry.1.answer))

-- or for this refusal: it was refused or left no record, or there was no memory to put it
abbrev pub IsGivenUpFor : Turn → Refusal → Type 0
IsGivenUpFor t e = IsGivenUp t
    × (((entry : ℕ × Record) × (t.told ≡ entry ∷ []) × (entry.1.answer ≡ Err e))
    ⊎ (IsUnasked t e ⊎ ((t.told ≢ []) × (e ≡ OutOfMemory))))

abbrev pub IsTurn : Turn → Type 0
IsTurn t = IsWhole t ⊎ IsGivenUp t

-- rule: marks
-- each turn begins with the marks that the one before left
abbrev pub Follows : PerType ℕ → List Turn → PerType ℕ → Type 0
Follows first [] last = first ≡ last
Follows first (t ∷ ts) last = (t.marks ≡ first) × Follows t.after ts last

-- these are the turns, from a peer that knows nothing
pub record AreTurns (turns : List Turn) (told : List (ℕ × Record)) (tried : List Record) (put : List (List ℕ × Bool)) (receipts : List Receipt) (marks : PerType ℕ) : Type 0 where
  pub are : All IsTurn turns
  pub follow : Follows (each 0) turns marks
  pub told_are : told ≡ flat_map (λ t. t.told) turns
  pub tried_are : tried ≡ flat_map (λ t. t.tried) turns
  pub put_are : put ≡ flat_map (λ t. t.put) turns
  pub receipts_are : receipts ≡ flat_map (λ t. t.receipts) turns

-- what the last turn was: whole where the node was stopped, else given up, since the other end is gone or for this refusal
abbrev pub IsLastTurn : Turn → Result Ended Refusal → Type 0
IsLastTurn t (Ok Stopped) = IsWhole t
IsLastTurn t (Ok Unlinked) = IsCutOff t
IsLastTurn t (Err e) = IsGivenUpFor t e

-- all of who tells
abbrev pub HasTold : List (ℕ × Record) → List Record → List (List ℕ × Bool) → List Receipt → Result Ended Refusal → Type 0
HasTold told tried put receipts r =
    (before : List Turn) × (last : Turn) × (marks : PerType ℕ) × AreTurns (before ++ last ∷ []) told tried put receipts marks × IsLastTurn last r

-- one turn, and how it ends: whole, or since the other end is gone, or for this refusal
abbrev pub TurnEnds : Turn → Result Bool Refusal → Type 0
TurnEnds t (Ok true) = IsWhole t
TurnEnds t (Ok false) = IsCutOff t
TurnEnds t (Err e) = IsGivenUpFor t e

-- ---- who merges

-- A parcel that was taken: what the seat was told of it, the tries that left no record, and whether it counts as dropped.
pub record Taking : Type 0 where
  pub parcel : List ℕ × Bool
  pub told : List (ℕ × Record)
  pub tried : List Record
  pub dropped : ℕ

-- its merge is recorded, of the batch that its frame spells
abbrev pub IsMerge : Taking → Type 0
IsMerge t =
    (entry : ℕ × Record) × (b : PerType (List StampedWrite)) × (t.told ≡ entry ∷ []) × IsFrameOf t.parcel.0 b × (entry.1.event ≡ Merge b)
    × IsTriedBefore (Merge b) t.tried

-- or there is none: it was tried in vain, or never, where the frame wasn't read
abbrev pub IsDrop : Taking → Type 0
IsDrop t =
    (t.told ≡ [])
    × ((t.tried ≡ []) ⊎ ((b : PerType (List StampedWrite)) × (e : Refusal) × IsFrameOf t.parcel.0 b × LeavesNoRecord e × IsTriedInVain (Merge b) e t.tried))

-- a merge of it is recorded, or it is dropped
abbrev pub IsTaking : Taking → Type 0
IsTaking t = ((t.dropped ≡ 0) × IsMerge t) ⊎ ((t.dropped ≡ 1) × IsDrop t)

-- whether all that was told of it was answered, and something was
abbrev pub is_merged : List (ℕ × Record) → Bool
is_merged [] = false
is_merged (entry ∷ more) = is_ok entry.1.answer

-- rule: marks
-- Whether a part of the present batch was lost, after these parcels.
abbrev pub lost_after : Bool → List Taking → Bool
lost_after lost [] = lost
lost_after lost (t ∷ ts) = lost_after (if t.parcel.1 then false else lost || not (is_merged t.told)) ts

-- rule: marks
-- the receipt of a batch
abbrev pub receipt_for : Bool → Receipt
receipt_for lost = if lost then Lost else Merged

-- rule: marks
-- A receipt is due after the last parcel of each batch: merged where no part of it was lost.
abbrev pub receipts_due : Bool → List Taking → List Receipt
receipts_due lost [] = []
receipts_due lost (t ∷ ts) =
    if t.parcel.1 then receipt_for (lost || not (is_merged t.told)) ∷ receipts_due false ts else receipts_due (lost || not (is_merged t.told)) ts

-- All that were due were put, and no put failed; or the put of the last one failed, which was due behind the last parcel that was
-- taken. `failed` and `after` count the puts that failed, before and after.
abbrev pub AreReceipts : List Receipt → List Taking → ℕ → ℕ → Type 0
AreReceipts receipts takings failed after =
    ((receipts ≡ receipts_due false takings) × (after ≡ failed))
    ⊎ (((before : List Taking) × (last : Taking) × (takings ≡ before ++ last ∷ []) × (last.parcel.1 ≡ true) × (receipts ≡ receipts_due false before))
    × MoreFailed failed after)

-- All of who merges: the parcels in order, each merged or dropped, and the receipts that were put, where so many puts of receipts had
-- failed before and after.
pub record HasMerged (told : List (ℕ × Record)) (tried : List Record) (taken : List (List ℕ × Bool)) (receipts : List Receipt) (dropped failed after : ℕ) : Type 0 where
  pub takings : List Taking
  pub are_takings : All IsTaking takings
  pub taken_are : taken ≡ map (λ t. t.parcel) takings
  pub told_are : told ≡ flat_map (λ t. t.told) takings
  pub tried_are : tried ≡ flat_map (λ t. t.tried) takings
  pub dropped_are : dropped ≡ sum_by (λ t. t.dropped) takings
  pub receipts_are : AreReceipts receipts takings failed after

-- ---- their steps

-- why a batch isn't sent: the other end is gone, or there was no memory
abbrev pub IsReason : SendFailure → Type 0
IsReason unsent.Unlinked = ⊤
IsReason (unsent.Refused e) = e ≡ OutOfMemory

-- what a turn answers whose batch isn't sent
abbrev pub given_up : SendFailure → Result Bool Refusal
given_up unsent.Unlinked = Ok false
given_up (unsent.Refused e) = Err e

-- some parcels are put behind others, or a beginning of them
abbrev pub Puts : {T : Type 0} → List (List ℕ × Bool) → List (List ℕ × Bool) → List (List ℕ × Bool) → Result T SendFailure → Type 0
Puts parcels old new (Ok x) = new ≡ old ++ parcels
Puts parcels old new (Err e) = IsReason e × ((put : List (List ℕ × Bool)) × (new ≡ old ++ put) × Begins put parcels)

-- and one receipt is taken for them, if there are any
abbrev pub Settles : List (List ℕ × Bool) → List (List ℕ × Bool) → List (List ℕ × Bool) → List Receipt → List Receipt → Result Receipt SendFailure → Type 0
Settles parcels old new had has (Ok receipt) =
    (new ≡ old ++ parcels) × (((parcels ≡ []) × (receipt ≡ Merged) × (has ≡ had)) ⊎ ((parcels ≢ []) × (has ≡ had ++ receipt ∷ [])))
Settles parcels old new had has (Err e) = IsReason e × ((put : List (List ℕ × Bool)) × (new ≡ old ++ put) × Begins put parcels) × (has ≡ had)

-- a parcel is merged or dropped, and whether a merge of it was answered
abbrev pub IsMerging : List ℕ × Bool → List (ℕ × Record) → List Record → ℕ × Bool → Type 0
IsMerging parcel told tried r = IsTaking (record { parcel = parcel; told = told; tried = tried; dropped = r.0 }) × (r.1 ≡ is_merged told)

-- After the last parcel of a batch its receipt is put, or its put failed. So many puts had failed before, and have failed now.
abbrev pub Acknowledges : Bool → Bool → Bool → List Receipt → List Receipt → ℕ → ℕ → Bool → Type 0
Acknowledges false lost after had has failed now ok = (ok ≡ true) × (has ≡ had) × (after ≡ lost) × (now ≡ failed)
Acknowledges true lost after had has failed now true = (has ≡ had ++ receipt_for lost ∷ []) × (after ≡ false) × (now ≡ failed)
Acknowledges true lost after had has failed now false = (has ≡ had) × MoreFailed failed now
