-- How far the requests of a stream were read, where the reader may be pending.
use Rattle.std.proofs.Common.{◌≡◌, ◌≤◌, ℕ, List, [], ◌++◌, Bool, true, false, Option, None, Result, Ok, Err, inl, inr, refl, sym, ap, subst, ◌∙◌, append-nil, append_assoc, length, take, arith, length-take}
use Rattle.std.specs.Io.KnownBytes.{Consumes}
use Rattle.std.proofs.lemmas.List.Elements.{All-nil}
use Rattle.futures.specs.declared.task.Poll.{Poll}
use Rattle.futures.specs.declared.task.Poll.TheVariants.{Ready, Pending}
use Rattle.xds_resource.specs.declared.refusal.Refusal.{Refusal}
use Rattle.xds_core.specs.Legal.{Record}
use Rattle.xds_events.specs.declared.request.Request.{Request}
use Rattle.xds_flows.specs.Reading.{HasRead, IsAsking, IsEnd, IsRead, IsTaken, TurnReads}
use Rattle.xds_flows.proofs.WorkersReadings.{filled, reads_with}
use Rattle.futures.specs.Poll.{IfReady, OnPending}
use Rattle.std.proofs.KnownBytes.{Consumes-nil}
use Rattle.xds_node.specs.Turning.{Fills, GivesRequest}
use Rattle.xds_resource.specs.declared.refusal.Refusal.TheVariants.{OutOfMemory}
use Rattle.xds_flows.specs.Waiting.{Gets, IsAwaited, ReadsOn, Taken}
use Rattle.xds_node.proofs.Callings.{Told, behind}
use Rattle.xds_node.specs.WorkersTold.{IsClosing}
use Rattle.xds_frames.specs.Devices.{Device, seen}
use Rattle.xds_frames.specs.declared.counted.Counted.{Counted}
use Rattle.xds_frames.proofs.Gatherings.{of_calls as dev}
use Rattle.xds_flows.specs.declared.streams.poll_reader.ReadEnd.{ReadEnd}

none_taken : (n : ℕ) (buf : List ℕ) → n ≤ length buf → take n buf ≡ [] → n ≡ 0
none_taken n buf fits none = omega (arith, fits, length-take n buf, ap (λ l. length l) none)

pub fills : (held after : List ℕ) (b a : Option (List ℕ)) (i j n : ℕ) (new : List ℕ) (r : Result Bool Refusal) → Gets (dev b a i j) new (Ready (Ok n)) → Taken held (take n new) r after → Fills held (dev b a i j) r after
fills held after b a i j n new (Ok true) (fits, read, at_end, none) grown = (none, (take n new, read, grown))
fills held after b a i j n new (Ok false) (fits, read, at_end, none) (nothing, empty) = (none, at_end (none_taken n new fits nothing), subst (Consumes b a) nothing read, empty)
fills held after b a i j n new (Err e) (fits, read, at_end, none) (inl (nothing, is, some)) =
    inr (inl (is, some, at_end (none_taken n new fits nothing), none, subst (Consumes b a) nothing read))
fills held after b a i j n new (Err e) (fits, read, at_end, none) (inr is) = inr (inr (is, none, (take n new, read)))

-- nothing came yet
pub awaited : (stream : ℕ) (old : List (ℕ × Record)) (had : List Record) (held mid after : List ℕ) (o : Option Request) (b a : Option (List ℕ)) (i j : ℕ) → GivesRequest held (Ok o) mid → o ≡ None
    → IsAwaited (dev b a i j) → after ≡ mid → Told old old had had (λ told tried. IsRead stream told tried held (dev b a i j) after)
awaited stream old had held mid after o b a i j gives none (read, well) same =
    let (partial, kept) = subst (λ (x : Option Request). GivesRequest held (Ok x) mid) none gives in (
      [],
      [],
      sym (append-nil old),
      sym (append-nil had),
      record {
        came = [];
        asked = [];
        read = read;
        joined = append-nil held ∙ sym kept ∙ sym same;
        are_asked = All-nil (IsAsking stream);
        taken = All-nil IsTaken;
        told_are = refl;
        tried_are = refl;
        none_failed = well;
      },
    )

pub waits : (stream : ℕ) (old : List (ℕ × Record)) (had : List Record) (held mid after : List ℕ) (o : Option Request) (b a : Option (List ℕ)) (i j : ℕ) (p : Poll (Result Bool Refusal)) → GivesRequest held (Ok o) mid → o ≡ None
    → OnPending p (IsAwaited (dev b a i j) × (after ≡ mid)) → OnPending p (Told old old had had (λ told tried. IsRead stream told tried held (dev b a i j) after))
waits stream old had held mid after o b a i j (Ready r) gives none waiting = tt
waits stream old had held mid after o b a i j Pending gives none (nothing, same) = awaited stream old had held mid after o b a i j gives none nothing same

pub fills_ready : (stream : ℕ) (old : List (ℕ × Record)) (had : List Record) (held mid after : List ℕ) (o : Option Request) (b a : Option (List ℕ)) (i j : ℕ) (p : Poll (Result Bool Refusal)) → GivesRequest held (Ok o) mid → o ≡ None
    → IfReady p (λ r. Fills mid (dev b a i j) r after) → IfReady p (λ r. Told old old had had (λ told tried. TurnReads stream told tried held (dev b a i j) r after))
fills_ready stream old had held mid after o b a i j (Ready r) gives none fill = filled stream old had held mid after o b a i j r gives none fill
fills_ready stream old had held mid after o b a i j Pending gives none fill = tt

-- nothing was read yet
pub start_at : (stream : ℕ) (old : List (ℕ × Record)) (had : List Record) (held : List ℕ) (r : Option (List ℕ)) (i : ℕ) → Told old old had had (λ told tried. IsRead stream told tried held (dev r r i i) held)
start_at stream old had held r i = (
  [],
  [],
  sym (append-nil old),
  sym (append-nil had),
  record {
    came = [];
    asked = [];
    read = Consumes-nil r;
    joined = append-nil held;
    are_asked = All-nil (IsAsking stream);
    taken = All-nil IsTaken;
    told_are = refl;
    tried_are = refl;
    none_failed = refl;
  },
)

-- ---- a future's polls

ends_as : (stream : ℕ) (rest : List ℕ) (last : List (ℕ × Record)) (tries : List Record) (r : Result (Unit {0}) Refusal) (a b c : Option (List ℕ)) (i j h : ℕ) → j ≡ i → IsEnd stream rest last tries r (dev b c j h)
    → IsEnd stream rest last tries r (dev a c i h)
ends_as stream rest last tries (Ok x) a b c i j h same is = subst (λ (x : ℕ). IsEnd {T = Unit {0}} stream rest last tries (Ok tt) (dev a c x h)) same is
ends_as stream rest last tries (Err e) a b c i j h same is = subst (λ (x : ℕ). IsEnd {T = Unit {0}} stream rest last tries (Err e) (dev a c x h)) same is

-- a reading that goes on, to its end
pub reads_to : (stream : ℕ) (old mid new : List (ℕ × Record)) (had now has : List Record) (held after : List ℕ) (r q p : Option (List ℕ)) (i j h : ℕ) (res : Result (Unit {0}) Refusal)
    → Told old mid had now (λ told tried. IsRead stream told tried held (dev r q i j) after) → Told mid new now has (λ told tried. HasRead stream told tried after (dev q p j h) res)
    → Told old new had has (λ told tried. HasRead stream told tried held (dev r p i h) res)
reads_to stream old mid new had now has held after r q p i j h res so read =
    reads_with stream old mid new had now has held after [] r q p i j h (Unit {0}) (Unit {0}) res res so read
    (λ rest last tries same ends. ends_as stream rest last tries res r q p i j h same ends)

-- there was no memory to begin
pub no_memory : (stream : ℕ) (old : List (ℕ × Record)) (had : List Record) (b : Option (List ℕ)) (i : ℕ) (e : Refusal) → e ≡ OutOfMemory
    → Told old old had had (λ told tried. HasRead {T = Unit {0}} stream told tried [] (dev b b i i) (Err e))
no_memory stream old had b i e is = (
  [],
  [],
  sym (append-nil old),
  sym (append-nil had),
  record {
    came = [];
    asked = [];
    rest = [];
    last = [];
    tries = [];
    read = Consumes-nil b;
    joined = refl;
    are_asked = All-nil (IsAsking stream);
    taken = All-nil IsTaken;
    told_are = refl;
    tried_are = refl;
    ends = inl (inr (inr (inr (is, ([], [], inl (omega arith), refl), refl))), refl, refl);
  },
)

-- what comes after a poll that was pending comes after what was before it
pub goes_on : (stream : ℕ) (old mid new : List (ℕ × Record)) (had now has : List Record) (held after : List ℕ) (r q p : Option (List ℕ)) (i j h : ℕ) (res : Result (Unit {0}) Refusal)
    → Told old mid had now (λ told tried. IsRead stream told tried held (dev r q i j) after) → Told mid new now has (λ told tried. ReadsOn stream told tried after (dev q p j h) res)
    → Told old new had has (λ told tried. ReadsOn stream told tried held (dev r p i h) res)
goes_on stream old mid new had now has held after r q p i j h res so (told, tried, is, was, (requests, closing, before, tries, told_are, tried_are, read, closes)) =
    let (first, firsts, first_is, first_was, then_read) =
    reads_with stream old mid (mid ++ requests) had now (now ++ before) held after [] r q p i j h (Unit {0}) (Unit {0}) res res so (requests, before, refl, refl, read)
    (λ rest last tries same ends. ends_as stream rest last tries res r q p i j h same ends) in (
      first ++ closing,
      firsts ++ tries,
      is ∙ ap (λ l. mid ++ l) told_are ∙ sym (append_assoc mid requests closing) ∙ ap (λ l. l ++ closing) first_is ∙ append_assoc old first closing,
      was ∙ ap (λ (l : List Record). now ++ l) tried_are ∙ sym (append_assoc now before tries) ∙ ap (λ (l : List Record). l ++ tries) first_was ∙ append_assoc had firsts tries,
      (first, closing, firsts, tries, refl, refl, then_read, closes),
    )

-- the reading ended, and the close of the stream was asked for
pub ended : (stream : ℕ) (old mid new : List (ℕ × Record)) (had now has : List Record) (held : List ℕ) (d : Device) (res : Result (Unit {0}) Refusal) → Told old mid had now (λ told tried. HasRead stream told tried held d res)
    → Told mid new now has (IsClosing stream) → Told old new had has (λ told tried. ReadsOn stream told tried held d res)
ended stream old mid new had now has held d res (requests, before, is, was, read) (closing, tries, next, then_is, closes) =
    (requests ++ closing, before ++ tries, behind old mid new requests closing is next, behind had now has before tries was then_is, (requests, closing, before, tries, refl, refl, read, closes))

-- the same as an end
pub ended_as : {S D : Type 0} (told : S → List (ℕ × Record)) (refused : S → List Record) (remaining : D → Option (List ℕ)) (stream : ℕ) (seat : S) (held : List ℕ) (reader : Counted D) (end : ReadEnd S D) (served : Result (Unit {0}) Refusal)
    (after : S) (left : Counted D) → end ≡ record { result = served; seat = after; reader = left }
    → Told (told seat) (told after) (refused seat) (refused after) (λ t u. ReadsOn stream t u held (seen remaining reader left) served)
    → Told (told seat) (told end.seat) (refused seat) (refused end.seat) (λ t u. ReadsOn stream t u held (seen remaining reader end.reader) end.result)
ended_as {S} {D} told refused remaining stream seat held reader end served after left is all =
    subst (λ (x : ReadEnd S D). Told (told seat) (told x.seat) (refused seat) (refused x.seat) (λ t u. ReadsOn stream t u held (seen remaining reader x.reader) x.result)) (sym is) all
