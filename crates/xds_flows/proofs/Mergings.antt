-- How far the parcels of another replica were merged.
use Rattle.std.proofs.Common.{◌≡◌, ◌+◌, ◌≤◌, ℕ, List, [], ◌∷◌, ◌++◌, Bool, true, false, map, Result, Ok, Err, inl, inr, refl, sym, ap, subst, ◌∙◌, append_assoc, append-nil, arith}
use Rattle.std.specs.Prelude.{All, ◌||◌, not, if◌then◌else◌}
use Rattle.std.specs.List.{flat_map, sum_by}
use Rattle.std.proofs.lemmas.Bool.{false≢true}
use Rattle.std.proofs.lemmas.Grind.{flat_map-append}
use Rattle.std.proofs.lemmas.List.{map-append}
use Rattle.std.proofs.lemmas.List.Elements.{All-nil, All-push}
use Rattle.std.proofs.lemmas.List.Sums.{fold-append}
use Rattle.xds_resource.specs.PerType.{PerType}
use Rattle.xds_resource.specs.Writes.{StampedWrite}
use Rattle.xds_resource.specs.declared.refusal.Refusal.{Refusal}
use Rattle.xds_frames.specs.Devices.{MoreFailed}
use Rattle.xds_core.specs.Events.{Merge, Reply}
use Rattle.xds_core.specs.Legal.{Record}
use Rattle.xds_events.specs.declared.event.Reply as replied
use Rattle.xds_node.specs.Told.{IsTold, LeavesNoRecord}
use Rattle.xds_flows.specs.declared.replication.parcels.Receipt.{Receipt}
use Rattle.xds_flows.specs.Parcels.{IsFrameOf}
use Rattle.xds_flows.specs.Exchanging.{Acknowledges, AreReceipts, HasMerged, IsMerging, IsTaking, Taking, is_merged, lost_after, receipt_for, receipts_due}
use Rattle.xds_node.proofs.Callings.{Tries}

-- whether a part of the batch was lost, with this one
abbrev now_lost : Bool → Taking → Bool
now_lost lost t = lost || not (is_merged t.told)

abbrev receipts_of : Bool → Bool → List Receipt
receipts_of last lost = if last then receipt_for lost ∷ [] else []

lost-snoc : (lost : Bool) (ts : List Taking) (t : Taking) → lost_after lost (ts ++ t ∷ []) ≡ (if t.parcel.1 then false else now_lost (lost_after lost ts) t)
lost-snoc lost [] t = refl
lost-snoc lost (u ∷ us) t = lost-snoc (if u.parcel.1 then false else now_lost lost u) us t

due-either : (b lost : Bool) (us : List Taking) (t : Taking) → receipts_due false (us ++ t ∷ []) ≡ receipts_due false us ++ receipts_of t.parcel.1 (now_lost (lost_after false us) t)
    → receipts_due lost (us ++ t ∷ []) ≡ receipts_due lost us ++ receipts_of t.parcel.1 (now_lost (lost_after lost us) t)
    → (if b then receipt_for lost ∷ receipts_due false (us ++ t ∷ []) else receipts_due lost (us ++ t ∷ []))
    ≡ (if b then receipt_for lost ∷ receipts_due false us else receipts_due lost us) ++ receipts_of t.parcel.1 (now_lost (lost_after (if b then false else lost) us) t)
due-either true lost us t ended on = ap (λ l. receipt_for lost ∷ l) ended
due-either false lost us t ended on = on

due-snoc : (lost : Bool) (ts : List Taking) (t : Taking) → receipts_due lost (ts ++ t ∷ []) ≡ receipts_due lost ts ++ receipts_of t.parcel.1 (now_lost (lost_after lost ts) t)
due-snoc lost [] t = refl
due-snoc lost (u ∷ us) t = due-either u.parcel.1 (now_lost lost u) us t (due-snoc false us t) (due-snoc (now_lost lost u) us t)

sum-snoc : (ts : List Taking) (t : Taking) → sum_by (λ u. u.dropped) (ts ++ t ∷ []) ≡ sum_by (λ u. u.dropped) ts + t.dropped
sum-snoc ts t = fold-append (λ (n : ℕ) (u : Taking). n + u.dropped) 0 ts (t ∷ [])

-- these parcels were taken, and each was merged or dropped
pub record ByTakings (s0 s1 : List (ℕ × Record)) (r0 r1 : List Record) (t0 t1 : List (List ℕ × Bool)) (takings : List Taking) (dropped : ℕ) : Type 0 where
  pub are : All IsTaking takings
  pub told : s1 ≡ s0 ++ flat_map (λ t. t.told) takings
  pub tried : r1 ≡ r0 ++ flat_map (λ t. t.tried) takings
  pub taken : t1 ≡ t0 ++ map (λ t. t.parcel) takings
  pub drops : dropped ≡ sum_by (λ t. t.dropped) takings

abbrev pub Merges : List (ℕ × Record) → List (ℕ × Record) → List Record → List Record → List (List ℕ × Bool) → List (List ℕ × Bool) → List Receipt → List Receipt → ℕ → ℕ → ℕ → Bool → Type 0
Merges s0 s1 r0 r1 t0 t1 p0 p1 f0 f1 dropped lost =
    (takings : List Taking) × ByTakings s0 s1 r0 r1 t0 t1 takings dropped × (p1 ≡ p0 ++ receipts_due false takings) × (lost ≡ lost_after false takings) × (f1 ≡ f0)

pub merging-start : (s : List (ℕ × Record)) (r : List Record) (t : List (List ℕ × Bool)) (p : List Receipt) (f : ℕ) → Merges s s r r t t p p f f 0 false
merging-start s r t p f =
    ([], record { are = All-nil IsTaking; told = sym (append-nil s); tried = sym (append-nil r); taken = sym (append-nil t); drops = refl }, sym (append-nil p), refl, refl)

-- all of it, where it ends so
abbrev pub Merged : List (ℕ × Record) → List (ℕ × Record) → List Record → List Record → List (List ℕ × Bool) → List (List ℕ × Bool) → List Receipt → List Receipt → ℕ → ℕ → ℕ → Type 0
Merged s0 s1 r0 r1 t0 t1 p0 p1 f0 f1 dropped =
    (told : List (ℕ × Record)) × (tried : List Record) × (taken : List (List ℕ × Bool)) × (given : List Receipt)
    × (s1 ≡ s0 ++ told) × (r1 ≡ r0 ++ tried) × (t1 ≡ t0 ++ taken) × (p1 ≡ p0 ++ given) × HasMerged told tried taken given dropped f0 f1

all_of : (s0 s1 : List (ℕ × Record)) (r0 r1 : List Record) (t0 t1 : List (List ℕ × Bool)) (p0 p1 given : List Receipt) (takings : List Taking) (f0 f1 dropped : ℕ) → ByTakings s0 s1 r0 r1 t0 t1 takings dropped
    → p1 ≡ p0 ++ given → AreReceipts given takings f0 f1 → Merged s0 s1 r0 r1 t0 t1 p0 p1 f0 f1 dropped
all_of s0 s1 r0 r1 t0 t1 p0 p1 given takings f0 f1 dropped so put are = (
  flat_map (λ t. t.told) takings,
  flat_map (λ t. t.tried) takings,
  map (λ t. t.parcel) takings,
  given,
  so.told,
  so.tried,
  so.taken,
  put,
  record { takings = takings; are_takings = so.are; taken_are = refl; told_are = refl; tried_are = refl; dropped_are = so.drops; receipts_are = are },
)

pub merging-ended : (s0 s1 : List (ℕ × Record)) (r0 r1 : List Record) (t0 t1 t2 : List (List ℕ × Bool)) (p0 p1 : List Receipt) (f0 f1 dropped : ℕ) (lost : Bool) → Merges s0 s1 r0 r1 t0 t1 p0 p1 f0 f1 dropped lost
    → t2 ≡ t1 → Merged s0 s1 r0 r1 t0 t2 p0 p1 f0 f1 dropped
merging-ended s0 s1 r0 r1 t0 t1 t2 p0 p1 f0 f1 dropped lost (takings, so, put, is, none) same =
    subst (λ (t : List (List ℕ × Bool)). Merged s0 s1 r0 r1 t0 t p0 p1 f0 f1 dropped) (sym same) (all_of s0 s1 r0 r1 t0 t1 p0 p1 (receipts_due false takings) takings f0 f1 dropped so put (inl (refl, none)))

-- what a parcel more added
grown : {X : Type 0} (f : Taking → List X) (takings : List Taking) (t : Taking) (old mid new : List X) → mid ≡ old ++ flat_map f takings → new ≡ mid ++ f t → new ≡ old ++ flat_map f (takings ++ t ∷ [])
grown f takings t old mid new is more =
    more ∙ ap (λ l. l ++ f t) is ∙ append_assoc old (flat_map f takings) (f t) ∙ ap (λ l. old ++ (flat_map f takings ++ l)) (sym (append-nil (f t)))
    ∙ ap (λ l. old ++ l) (sym (flat_map-append f takings (t ∷ [])))

module _ (s0 s1 s2 : List (ℕ × Record)) (r0 r1 r2 : List Record) (t0 t1 t2 : List (List ℕ × Bool)) (p0 p1 p2 : List Receipt) (f0 f1 f2 dropped after : ℕ) (lost now later : Bool) (parcel : List ℕ × Bool) (r : ℕ × Bool) where
  abbrev Step : Type 0
  Step = (told : List (ℕ × Record)) × (tried : List Record) × (s2 ≡ s1 ++ told) × (r2 ≡ r1 ++ tried) × IsMerging parcel told tried r

  abbrev Before : Type 0
  Before = Merges s0 s1 r0 r1 t0 t1 p0 p1 f0 f1 dropped lost

  module _ (step : Step) (took : t2 ≡ t1 ++ parcel ∷ []) (counts : after ≡ dropped + r.0) (loses : now ≡ (lost || not r.1)) where
    abbrev one : Taking
    one = record { parcel = parcel; told = step.0; tried = step.1; dropped = r.0 }

    more_by : (takings : List Taking) → ByTakings s0 s1 r0 r1 t0 t1 takings dropped → ByTakings s0 s2 r0 r2 t0 t2 (takings ++ one ∷ []) after
    more_by takings so = record {
      are = All-push IsTaking takings one so.are step.4.0;
      told = grown (λ u. u.told) takings one s0 s1 s2 so.told step.2;
      tried = grown (λ u. u.tried) takings one r0 r1 r2 so.tried step.3;
      taken = took ∙ ap (λ l. l ++ parcel ∷ []) so.taken ∙ append_assoc t0 (map (λ u. u.parcel) takings) (parcel ∷ []) ∙ ap (λ l. t0 ++ l) (sym (map-append (λ u. u.parcel) takings (one ∷ [])));
      drops = omega (arith, counts, so.drops, sum-snoc takings one);
    }

    -- rule: marks
    lost_now : (takings : List Taking) → lost ≡ lost_after false takings → now ≡ (lost_after false takings || not (is_merged step.0))
    lost_now takings is = loses ∙ ap (λ b. lost || not b) step.4.1 ∙ ap (λ b. b || not (is_merged step.0)) is

    -- it goes on
    on_by : (ok : Bool) → Before → ok ≡ true → Acknowledges parcel.1 now later p1 p2 f1 f2 ok → Merges s0 s2 r0 r2 t0 t2 p0 p2 f0 f2 after later
    on_by ok (takings, so, put, is, none) goes acknowledged =
        let (receipts, state, fine) = by parcel.1 ok goes acknowledged in (
          takings ++ one ∷ [],
          more_by takings so,
          receipts ∙ ap (λ l. l ++ receipts_of parcel.1 now) put ∙ append_assoc p0 (receipts_due false takings) (receipts_of parcel.1 now)
              ∙ ap (λ b. p0 ++ (receipts_due false takings ++ receipts_of parcel.1 b)) (lost_now takings is) ∙ ap (λ l. p0 ++ l) (sym (due-snoc false takings one)),
          state ∙ ap (λ b. if parcel.1 then false else b) (lost_now takings is) ∙ sym (lost-snoc false takings one),
          fine ∙ none,
        )
      where
        by : (last ok : Bool) → ok ≡ true → Acknowledges last now later p1 p2 f1 f2 ok → (p2 ≡ p1 ++ receipts_of last now) × (later ≡ (if last then false else now)) × (f2 ≡ f1)
        by true true goes acknowledged = acknowledged
        by true false goes acknowledged = absurd (false≢true goes)
        by false ok goes acknowledged = (acknowledged.1 ∙ sym (append-nil p1), acknowledged.2, acknowledged.3)

    -- or it ends there
    stopped_by : (ok : Bool) → Before → Acknowledges parcel.1 now later p1 p2 f1 f2 ok → Merged s0 s2 r0 r2 t0 t2 p0 p2 f0 f2 after
    stopped_by true so acknowledged = merging-ended s0 s2 r0 r2 t0 t2 t2 p0 p2 f0 f2 after later (on_by true so refl acknowledged) refl
    stopped_by false (takings, so, put, is, none) acknowledged =
        let (last, same, failed) = by parcel.1 acknowledged in
        all_of s0 s2 r0 r2 t0 t2 p0 p2 (receipts_due false takings) (takings ++ one ∷ []) f0 f2 after (more_by takings so) (same ∙ put)
        (inr ((takings, one, refl, last, refl), subst (λ (f : ℕ). MoreFailed f f2) none failed))
      where
        by : (last : Bool) → Acknowledges last now later p1 p2 f1 f2 false → (last ≡ true) × (p2 ≡ p1) × MoreFailed f1 f2
        by true acknowledged = (refl, acknowledged.0, acknowledged.1)
        by false acknowledged = absurd (false≢true acknowledged.0)

    pub merging-more : (ok last : Bool) → Before → last ≡ parcel.1 → ok ≡ true → Acknowledges last now later p1 p2 f1 f2 ok → Merges s0 s2 r0 r2 t0 t2 p0 p2 f0 f2 after later
    merging-more ok last so is goes acknowledged = on_by ok so goes (subst (λ (b : Bool). Acknowledges b now later p1 p2 f1 f2 ok) is acknowledged)

    pub merging-stopped : (ok last : Bool) → Before → last ≡ parcel.1 → Acknowledges last now later p1 p2 f1 f2 ok → Merged s0 s2 r0 r2 t0 t2 p0 p2 f0 f2 after
    merging-stopped ok last so is acknowledged = stopped_by ok so (subst (λ (b : Bool). Acknowledges b now later p1 p2 f1 f2 ok) is acknowledged)

-- ---- one parcel

-- a parcel is merged or dropped, with what the seat was told and refused of it
abbrev pub MergesOne : List (ℕ × Record) → List (ℕ × Record) → List Record → List Record → List ℕ × Bool → ℕ × Bool → Type 0
MergesOne s0 s1 r0 r1 parcel r = (told : List (ℕ × Record)) × (tried : List Record) × (s1 ≡ s0 ++ told) × (r1 ≡ r0 ++ tried) × IsMerging parcel told tried r

-- its frame isn't read
pub not_read : (s : List (ℕ × Record)) (r : List Record) (parcel : List ℕ × Bool) → MergesOne s s r r parcel (1, false)
not_read s r parcel = ([], [], sym (append-nil s), sym (append-nil r), (inr (refl, (refl, inl refl)), refl))

module _ (s0 s1 : List (ℕ × Record)) (r0 r1 : List Record) (parcel : List ℕ × Bool) (b : PerType (List StampedWrite)) (is : IsFrameOf parcel.0 b) where
  -- its merge is recorded
  pub merge_told : (x : Result replied.Reply Refusal) (reply : Reply) → IsTold s0 s1 (Merge b) (Ok reply) → Tries {T = Result replied.Reply Refusal} r0 r1 (Merge b) (Ok x) → MergesOne s0 s1 r0 r1 parcel (0, true)
  merge_told x reply (n, told, below) (tries, grew, tried) =
      let entry : ℕ × Record = (n, record { event = Merge b; answer = Ok reply }) in (entry ∷ [], tries, told, grew, (inl (refl, (entry, b, refl, is, refl, tried)), refl))

  pub merge_refused : (x : Result replied.Reply Refusal) (e : Refusal) → IsTold s0 s1 (Merge b) (Err e) → Tries {T = Result replied.Reply Refusal} r0 r1 (Merge b) (Ok x) → MergesOne s0 s1 r0 r1 parcel (0, false)
  merge_refused x e (n, told, below) (tries, grew, tried) =
      let entry : ℕ × Record = (n, record { event = Merge b; answer = Err e }) in (entry ∷ [], tries, told, grew, (inl (refl, (entry, b, refl, is, refl, tried)), refl))

  -- or leaves no record
  pub merge_not_told : (e : Refusal) → LeavesNoRecord e → s1 ≡ s0 → Tries {T = Result replied.Reply Refusal} r0 r1 (Merge b) (Err e) → MergesOne s0 s1 r0 r1 parcel (1, false)
  merge_not_told e none same (tries, grew, vain) = ([], tries, same ∙ sym (append-nil s0), grew, (inr (refl, (refl, inr (b, e, is, none, vain))), refl))

-- one at most is dropped
pub one_at_most : (parcel : List ℕ × Bool) (told : List (ℕ × Record)) (tried : List Record) (r : ℕ × Bool) → IsMerging parcel told tried r → r.0 ≤ 1
one_at_most parcel told tried r (inl (none, merge), is) = omega (arith, none)
one_at_most parcel told tried r (inr (one, none), is) = omega (arith, one)
