-- The trace of records is that of each, one after another; it keeps the rules; and what is refused isn't the beginning of what a replica did.
use Rattle.std.proofs.Common.{◌≡◌, ◌≢◌, ◌<◌, ◌⊎◌, inl, inr, ℕ, ◌+◌, List, [], ◌∷◌, ◌++◌, map, length, take, drop, get_or, Result, Ok, Err, refl, sym, ap, subst, ◌∙◌, append-nil, append_assoc}
use Rattle.std.specs.Prelude.{All, IfOk}
use Rattle.std.proofs.lemmas.List.{map-append, take-append-drop}
use Rattle.std.proofs.lemmas.List.Concat.{flat_map-append}
use Rattle.std.proofs.lemmas.List.Elements.{All-head, All-tail, All-push, All-more, All-weaker}
use Rattle.xds_resource.specs.declared.types.TypeName.{TypeName}
use Rattle.xds_resource.specs.declared.types.TypeName.TheVariants.{Cluster, Endpoint, Listener, Route, Secret}
use Rattle.xds_resource.specs.declared.any.AnyWrite.{AnyWrite}
use Rattle.xds_resource.specs.Any.{stamped_write}
use Rattle.xds_resource.specs.declared.refusal.Refusal.{Refusal}
use Rattle.xds_resource.specs.declared.refusal.Refusal.TheVariants.{OutOfMemory, BadTrace}
use Rattle.xds_resource.proofs.Refusing.{memory_or_not}
use Rattle.xds_resource.specs.Resources.{IsWritable}
use Rattle.xds_resource.specs.Writes.{StampedWrite}
use Rattle.xds_message.proofs.BatchLemmas.{map-take-more}
use Rattle.xds_core.specs.Events.{Event, Reply}
use Rattle.xds_core.specs.Steps.{Core, fresh}
use Rattle.xds_core.specs.Legal.{Record, IsLegal, after}
use Rattle.xds_events.specs.declared.event.Record as made
use Rattle.xds_check.specs.declared.line.Line.{Line}
use Rattle.xds_check.specs.declared.line.Line.TheVariants as lines
use Rattle.xds_check.specs.Rules.{NoneBroken}
use Rattle.xds_trace.specs.Making.{IsSound, IsWellNamed, any_write, own_names, lines_of, trace_of, write_line}
use Rattle.xds_trace.specs.Telling.{IsTold, IsSoundRecord, BeginsUntold, KeepsTheRules, record_of}
use Rattle.xds_trace.proofs.Named.{well_named}
use Rattle.xds_trace.proofs.Tracing.{IsNamedRecord, taken_idle_ends}
use Rattle.xds_trace.proofs.Tellable.{every_record_is_told}

-- ---- one write more

stamped_any : (t : TypeName) (w : StampedWrite) → stamped_write (any_write t w) ≡ w
stamped_any Cluster w = refl
stamped_any Endpoint w = refl
stamped_any Listener w = refl
stamped_any Route w = refl
stamped_any Secret w = refl

pub writes_more : (t : TypeName) (ws : List StampedWrite) (i : ℕ) (write : AnyWrite) (before old new : List Line) → i < length ws → ((d : StampedWrite) → write ≡ any_write t (get_or ws i d))
    → old ≡ before ++ map (write_line t) (take i ws) → new ≡ old ++ lines.Write write ∷ [] → new ≡ before ++ map (write_line t) (take (i + 1) ws)
writes_more t ws i write before old new below says kept joined =
    let x = stamped_write write in
    let is : x ≡ get_or ws i x = ap stamped_write (says x) ∙ stamped_any t (get_or ws i x) in
    let this : write ≡ any_write t x = says x ∙ ap (any_write t) (sym is) in
    joined ∙ (λ j. kept j ++ lines.Write (this j) ∷ []) ∙ append_assoc before (map (write_line t) (take i ws)) (write_line t x ∷ [])
    ∙ ap (λ l. before ++ l) (sym (map-take-more (write_line t) ws i x below is))

pub writable_more : (t : TypeName) (ws : List StampedWrite) (i : ℕ) (write : AnyWrite) → i < length ws → ((d : StampedWrite) → IsWritable t (get_or ws i d)) → All (IsWritable t) (take i ws) → All (IsWritable t) (take (i + 1) ws)
writable_more t ws i write below writable before = All-more (IsWritable t) ws i (stamped_write write) below before (writable (stamped_write write))

-- ---- one record more

pub lines_more : (rs : List made.Record) (i : ℕ) (x : made.Record) (old new : List Line) → i < length rs → x ≡ get_or rs i x → old ≡ trace_of (map record_of (take i rs)) → new ≡ old ++ lines_of own_names (record_of x)
    → new ≡ trace_of (map record_of (take (i + 1) rs))
lines_more rs i x old new below is before joined =
    joined ∙ ap (λ l. l ++ lines_of own_names (record_of x)) before
    ∙ ap (λ l. trace_of (map record_of (take i rs)) ++ l) (sym (append-nil (lines_of own_names (record_of x))))
    ∙ sym (flat_map-append (lines_of own_names) (map record_of (take i rs)) (record_of x ∷ []))
    ∙ ap trace_of (sym (map-take-more record_of rs i x below is))

pub sound_more : (rs : List made.Record) (i : ℕ) (x : made.Record) → i < length rs → x ≡ get_or rs i x → All IsSoundRecord (map record_of (take i rs)) → IsSoundRecord (record_of x) → All IsSoundRecord (map record_of (take (i + 1) rs))
sound_more rs i x below is before now =
    subst (All IsSoundRecord) (sym (map-take-more record_of rs i x below is)) (All-push IsSoundRecord (map record_of (take i rs)) (record_of x) before now)

pub all_last : {X : Type 0} (P : X → Type 0) (ys : List X) (x : X) → All P (ys ++ x ∷ []) → P x
all_last P [] x all = All-head P x [] all
all_last P (y ∷ ys) x all = all_last P ys x (All-tail P y (ys ++ x ∷ []) all)

pub untold_there : (rs : List made.Record) (i : ℕ) (x : made.Record) (e : Refusal) → i < length rs → x ≡ get_or rs i x → All IsSoundRecord (map record_of (take i rs)) → (e ≢ OutOfMemory → (e ≡ BadTrace) × (IsTold (record_of x) → ⊥))
    → (e ≢ OutOfMemory → IsSoundRecord (record_of x)) → e ≢ OutOfMemory → (e ≡ BadTrace) × BeginsUntold (map record_of rs)
untold_there rs i x e below is before told sound other =
    let more = map-take-more record_of rs i x below is in (
      (told other).0,
      record {
        front = map record_of (take (i + 1) rs);
        rest = map record_of (drop (i + 1) rs);
        joined = sym (ap (map record_of) (take-append-drop (i + 1) rs)) ∙ map-append record_of (take (i + 1) rs) (drop (i + 1) rs);
        sound = sound_more rs i x below is before (sound other);
        untold = λ all. (told other).1 (all_last IsTold (map record_of (take i rs)) (record_of x) (subst (All IsTold) more all));
      },
    )

-- ---- the whole

named_record : (e : Event) (a : Result Reply Refusal) → IfOk a (λ reply. IsSound e) → IfOk a (λ reply. IsWellNamed own_names e)
named_record e (Ok reply) sound = well_named e sound
named_record e (Err refusal) sound = tt

pub keeps_the_rules : (rs : List Record) (trace : List Line) → trace ≡ trace_of rs → All IsSoundRecord rs → KeepsTheRules rs trace
keeps_the_rules rs trace is sound replica quiet legal all =
    subst (λ (l : List Line). NoneBroken (l ++ map (λ p. lines.Idle p.0 p.1) quiet)) (sym is)
    (taken_idle_ends own_names replica rs quiet legal (All-weaker IsSoundRecord (IsNamedRecord own_names) (λ r. named_record r.event r.answer) rs sound) all)

legal_front : (front rest : List Record) (c : Core) → IsLegal c (front ++ rest) → IsLegal c front
legal_front [] rest c legal = tt
legal_front (r ∷ front) rest c legal = (legal.0, legal_front front rest (after c r.event) legal.1)

-- what a replica did is told, unless there is no memory
pub short_where_legal : (rs : List Record) (e : Refusal) → (e ≢ OutOfMemory → (e ≡ BadTrace) × BeginsUntold rs) → (replica : ℕ) → IsLegal (fresh replica) rs → e ≡ OutOfMemory
short_where_legal rs e told replica legal = which (memory_or_not e)
  where
    which : (e ≡ OutOfMemory) ⊎ (e ≢ OutOfMemory) → e ≡ OutOfMemory
    which (inl short) = short
    which (inr other) =
        let k = (told other).1 in
        absurd (k.untold (every_record_is_told replica k.front (legal_front k.front k.rest (fresh replica) (subst (IsLegal (fresh replica)) k.joined legal)) k.sound))
