-- What a seat was told, and refused, by one event.
use Rattle.std.proofs.Common.{◌≡◌, ◌≢◌, ℕ, List, [], ◌∷◌, ◌++◌, Result, Ok, Err, inl, inr, refl, sym, ap, subst, ◌∙◌, append_assoc, append-nil}
use Rattle.std.specs.Prelude.{IfOk, IfErr, OnOk, OnErr}
use Rattle.xds_resource.specs.declared.refusal.Refusal.{Refusal}
use Rattle.xds_resource.specs.declared.refusal.Refusal.TheVariants.{OutOfMemory, JournalFull}
use Rattle.xds_core.specs.Events.{Event, Reply as Answer, Close}
use Rattle.xds_core.specs.Legal.{Record}
use Rattle.xds_core.specs.Seen.{answer_of}
use Rattle.xds_events.specs.declared.event.Reply.{Reply}
use Rattle.xds_node.specs.Told.{IsTold, LeavesNoRecord}
use Rattle.xds_node.specs.WorkersTold.{IsAnswered, IsClosing, IsTried, in_vain}

-- something was put behind a list in two steps
pub behind : {X : Type 0} (old mid new told more : List X) → mid ≡ old ++ told → new ≡ mid ++ more → new ≡ old ++ (told ++ more)
behind old mid new told more first second = second ∙ ap (λ l. l ++ more) first ∙ append_assoc old told more

-- entries were told behind others, and tries refused behind others, and of them this holds
abbrev pub Told : List (ℕ × Record) → List (ℕ × Record) → List Record → List Record → (List (ℕ × Record) → List Record → Type 0) → Type 0
Told old new had has P = (told : List (ℕ × Record)) × (tried : List Record) × (new ≡ old ++ told) × (has ≡ had ++ tried) × P told tried

-- these tries of an event left no record
abbrev pub Tries : {T : Type 0} → List Record → List Record → Event → Result T Refusal → Type 0
Tries had has event r = (tries : List Record) × (has ≡ had ++ tries) × IsTried event r tries

-- ---- one event

without_room : (e : Refusal) → LeavesNoRecord e → e ≢ JournalFull → e ≡ OutOfMemory
without_room e (inl memory) room = memory
without_room e (inr full) room = absurd (room full)

module _ (T : Type 0) (had mid has : List Record) (event : Event) where
  -- it was tried once
  pub tried_once : (x : T) → has ≡ had → Tries {T = T} had has event (Ok x)
  tried_once x same = ([], same ∙ sym (append-nil had), inl refl)

  pub tried_in_vain : (e : Refusal) → LeavesNoRecord e → e ≢ JournalFull → has ≡ had ++ in_vain event e ∷ [] → Tries {T = T} had has event (Err e)
  tried_in_vain e none room is = (in_vain event e ∷ [], is, inl (without_room e none room, refl))

  -- or once more, where the journal was full
  pub tried_again : (e : Refusal) (same : Event) (r : Result T Refusal) → e ≡ JournalFull → mid ≡ had ++ in_vain event e ∷ [] → same ≡ event → IfErr r LeavesNoRecord → OnOk r (has ≡ mid)
      → IfErr r (λ why. has ≡ mid ++ in_vain same why ∷ []) → Tries {T = T} had has event r
  tried_again e same (Ok x) full first is none stays more = (in_vain event JournalFull ∷ [], stays ∙ first ∙ ap (λ (x : Refusal). had ++ in_vain event x ∷ []) full, inr refl)
  tried_again e same (Err why) full first is none stays more = (
    in_vain event JournalFull ∷ in_vain event why ∷ [],
    more ∙ ap (λ (l : List Record). l ++ in_vain same why ∷ []) first ∙ append_assoc had (in_vain event e ∷ []) (in_vain same why ∷ [])
        ∙ ap (λ (x : Refusal). had ++ in_vain event x ∷ in_vain same why ∷ []) full ∙ ap (λ (x : Event). had ++ in_vain event JournalFull ∷ in_vain x why ∷ []) is,
    inr (none, refl),
  )

-- a call under an event that is the same
pub told_as : (old mid new : List (ℕ × Record)) (event same : Event) (a : Result Answer Refusal) → same ≡ event → mid ≡ old → IsTold mid new same a → IsTold old new event a
told_as old mid new event same a is none told = subst (λ (x : Event). IsTold old new x a) is (subst (λ (x : List (ℕ × Record)). IsTold x new same a) none told)

pub told_again : (old mid new : List (ℕ × Record)) (event same : Event) (r : Result (Result Reply Refusal) Refusal) → same ≡ event → mid ≡ old → IfOk r (λ a. IsTold mid new same (answer_of a))
    → IfOk r (λ a. IsTold old new event (answer_of a))
told_again old mid new event same (Ok a) is none told = told_as old mid new event same (answer_of a) is none told
told_again old mid new event same (Err e) is none told = tt

-- ---- its answer

-- one event of a seat, with the tries that left no record
abbrev pub Answering : List (ℕ × Record) → List (ℕ × Record) → List Record → List Record → Event → Result Answer Refusal → Type 0
Answering old new had has event a = (tries : List Record) × (has ≡ had ++ tries) × IsAnswered old new tries event a

module _ (T : Type 0) (old new : List (ℕ × Record)) (had has : List Record) (event : Event) where
  pub answered_ok : (x : T) (reply : Answer) → IsTold old new event (Ok reply) → Tries {T = T} had has event (Ok x) → Answering old new had has event (Ok reply)
  answered_ok x reply told (tries, is, tried) = (tries, is, (told, tried))

  pub answered_refused : (x : T) (e : Refusal) → IsTold old new event (Err e) → Tries {T = T} had has event (Ok x) → Answering old new had has event (Err e)
  answered_refused x e told (tries, is, tried) = (tries, is, inl (told, tried))

  pub answered_not : (e : Refusal) → LeavesNoRecord e → new ≡ old → Tries {T = T} had has event (Err e) → Answering old new had has event (Err e)
  answered_not e none same (tries, is, tried) = (tries, is, inr (none, same, tried))

-- the close of a stream, which may leave no record
pub closed_by : (stream : ℕ) (old new : List (ℕ × Record)) (had has : List Record) (r : Result (Result Reply Refusal) Refusal) → IfOk r (λ a. IsTold old new (Close stream) (answer_of a)) → IfErr r LeavesNoRecord
    → OnErr r (new ≡ old) → Tries had has (Close stream) r → Told old new had has (IsClosing stream)
closed_by stream old new had has (Ok a) (n, told, below) none same (tries, is, tried) =
    let entry : ℕ × Record = (n, record { event = Close stream; answer = answer_of a }) in (entry ∷ [], tries, told, is, inl (entry, refl, refl, tried))
closed_by stream old new had has (Err e) told none same (tries, is, tried) = ([], tries, same ∙ sym (append-nil old), is, inr (e, none, refl, tried))
