-- How far the responses of a stream were written.
use Rattle.std.proofs.Common.{◌≡◌, ◌≢◌, ℕ, List, [], ◌∷◌, ◌++◌, true, false, Option, Some, None, Ok, Err, inl, inr, refl, sym, ap, subst, ◌∙◌, append-nil, length-append, arith}
use Rattle.std.specs.Prelude.{All}
use Rattle.std.specs.Io.KnownBytes.{Appends}
use Rattle.std.proofs.KnownBytes.{Appends-nil, Appends-trans, Appends-kept, Keeps-refl}
use Rattle.std.proofs.lemmas.Grind.{flat_map-append}
use Rattle.std.proofs.lemmas.List.Elements.{All-append, All-cons, All-nil}
use Rattle.xds_resource.specs.declared.refusal.Refusal.{Refusal}
use Rattle.xds_resource.specs.declared.refusal.Refusal.TheVariants.{NoStream, JournalFull}
use Rattle.xds_message.specs.declared.draft.Draft.{Draft}
use Rattle.xds_frames.specs.Devices.{Device}
use Rattle.xds_frames.specs.Frames.{frame_bytes}
use Rattle.xds_frames.proofs.Gatherings.{of_calls as dev}
use Rattle.xds_core.specs.Events.{Reply, Opened, Answered, Polled, Owed, Closed, Written, Merged, Entries, Rested, Changed, Poll}
use Rattle.xds_core.specs.Legal.{Record}
use Rattle.xds_node.specs.Sending.{Fits, frame_of, sent}
use Rattle.xds_node.specs.Turning.{draft_in}
use Rattle.xds_node.specs.WorkersTold.{IsGranted, IsClosing, IsTriedBefore, in_vain}
use Rattle.xds_flows.specs.Writing.{AreTries, HasWritten, IsPoll, IsStop, IsWritten, Responds, TurnWrites, WritesAll, listed, poll_of, response_in, responses_of}
use Rattle.xds_node.proofs.Callings.{Answering, Told, behind}

pub responses-append : (xs ys : List (ℕ × Record)) → responses_of (xs ++ ys) ≡ responses_of xs ++ responses_of ys
responses-append xs ys = flat_map-append (λ (e : ℕ × Record). response_in e.1.answer) xs ys

pub sent-append : (xs ys : List (ℕ × Record)) → sent (responses_of (xs ++ ys)) ≡ sent (responses_of xs) ++ sent (responses_of ys)
sent-append xs ys = ap sent (responses-append xs ys) ∙ flat_map-append (λ d. frame_bytes (frame_of d)) (responses_of xs) (responses_of ys)

-- ---- one turn

never : {X : Type 0} (d : Draft) → None ≡ Some d → X
never d wrong = absurd cc

-- the reply to a poll that gave a response
polled_some : (reply : Reply) (d : Draft) → draft_in reply ≡ Some d → reply ≡ Polled (Some d)
polled_some (Opened n) d is = never d is
polled_some (Answered o) d is = never d is
polled_some (Polled o) d is = ap Polled is
polled_some (Owed b) d is = never d is
polled_some Closed d is = never d is
polled_some (Written n w) d is = never d is
polled_some (Merged n) d is = never d is
polled_some (Entries b) d is = never d is
polled_some (Rested r) d is = never d is
polled_some (Changed b m) d is = never d is

-- ---- tries

abbrev IsFull : ℕ → Record → Type 0
IsFull stream t = t ≡ in_vain (poll_of stream) JournalFull

-- of no poll
pub no_tries : (stream : ℕ) → AreTries stream [] []
no_tries stream = (All-nil (IsFull stream), omega arith)

-- of one
one_try : (stream : ℕ) (entry : ℕ × Record) (tries : List Record) → IsTriedBefore (poll_of stream) tries → AreTries stream (entry ∷ []) tries
one_try stream entry [] (inl none) = (All-nil (IsFull stream), omega arith)
one_try stream entry (t ∷ ts) (inl none) = absurd cc
one_try stream entry tries (inr one) =
    let full : AreTries stream (entry ∷ []) (in_vain (poll_of stream) JournalFull ∷ []) =
    (All-cons (IsFull stream) (in_vain (poll_of stream) JournalFull) [] refl (All-nil (IsFull stream)), omega arith) in
    subst (λ (l : List Record). AreTries stream (entry ∷ []) l) (sym one) full

-- of more
pub more_tries : (stream : ℕ) (xs ys : List (ℕ × Record)) (tried tries : List Record) → AreTries stream xs tried → AreTries stream ys tries → AreTries stream (xs ++ ys) (tried ++ tries)
more_tries stream xs ys tried tries (are, few) (then_are, then_few) =
    (All-append (IsFull stream) tried tries are then_are, omega (arith, few, then_few, length-append xs ys, length-append tried tries))

module _ (stream : ℕ) (old new : List (ℕ × Record)) (had has : List Record) where
  sent_one : (o : Option Draft) (b a : Option (List ℕ)) (f g : ℕ) → Responds {T = Unit {0}} o (Ok tt) (dev b a f g) → All Fits (listed o ++ []) × Appends b a (sent (listed o ++ [])) × (g ≡ f)
  sent_one None b a f g (stays, none) = (All-nil Fits, Appends-kept b b a [] (Appends-nil b) stays, none)
  sent_one (Some d) b a f g (fits, wrote, none) = (All-cons Fits d [] fits (All-nil Fits), subst (Appends b a) (sym (append-nil (frame_bytes (frame_of d)))) wrote, none)

  -- a poll was answered, and its response is written
  pub turn_wrote : (reply : Reply) (o : Option Draft) (b a : Option (List ℕ)) (f g : ℕ) → Answering old new had has (Poll stream None) (Ok reply) → o ≡ draft_in reply
      → Responds {T = Unit {0}} o (Ok tt) (dev b a f g) → Told old new had has (λ told tried. TurnWrites stream told tried (dev b a f g) (Ok true))
  turn_wrote reply o b a f g (tries, grew, ((n, is, below), tried)) same responds =
      let entry : ℕ × Record = (n, record { event = Poll stream None; answer = Ok reply }) in
      let one = sent_one (draft_in reply) b a f g (subst (λ (x : Option Draft). Responds {T = Unit {0}} x (Ok tt) (dev b a f g)) same responds) in (
        entry ∷ [],
        tries,
        is,
        grew,
        (
          entry,
          refl,
          record {
            are_polls = All-cons (IsPoll stream) entry [] refl (All-nil (IsPoll stream));
            are_tries = one_try stream entry tries tried;
            granted = All-cons IsGranted entry [] refl (All-nil IsGranted);
            fit = one.0;
            wrote = one.1;
            none_failed = one.2;
          },
        ),
      )

  -- or it isn't
  pub turn_stopped : (reply : Reply) (o : Option Draft) (b a : Option (List ℕ)) (f g : ℕ) (e : Refusal) → Answering old new had has (Poll stream None) (Ok reply) → o ≡ draft_in reply
      → Responds {T = Unit {0}} o (Err e) (dev b a f g) → Told old new had has (λ told tried. TurnWrites stream told tried (dev b a f g) (Err e))
  turn_stopped reply None b a f g e told same responds = absurd responds
  turn_stopped reply (Some response) b a f g e (tries, grew, ((n, is, below), tried)) same (part, wrote, unsent) =
      let entry : ℕ × Record = (n, record { event = Poll stream None; answer = Ok reply }) in
      (entry ∷ [], tries, is, grew, (part, wrote, inr (inr (entry, response, refl, refl, ap Ok (polled_some reply response (sym same)), tried, unsent))))

  -- the last poll: the stream isn't open
  pub turn_ended : (b : Option (List ℕ)) (f : ℕ) → Answering old new had has (Poll stream None) (Err NoStream) → Told old new had has (λ told tried. TurnWrites stream told tried (dev b b f f) (Ok false))
  turn_ended b f (tries, grew, inl ((n, is, below), tried)) =
      let entry : ℕ × Record = (n, record { event = Poll stream None; answer = Err NoStream }) in (entry ∷ [], tries, is, grew, ((entry, refl, refl, refl, tried), Keeps-refl b, refl))
  turn_ended b f (tries, grew, inr (inl memory, same, vain)) = absurd cc
  turn_ended b f (tries, grew, inr (inr full, same, vain)) = absurd cc

  -- a poll is refused, or leaves no record
  pub turn_refused : (b : Option (List ℕ)) (f : ℕ) (e : Refusal) → e ≢ NoStream → Answering old new had has (Poll stream None) (Err e)
      → Told old new had has (λ told tried. TurnWrites stream told tried (dev b b f f) (Err e))
  turn_refused b f e other (tries, grew, inl ((n, is, below), tried)) =
      let entry : ℕ × Record = (n, record { event = Poll stream None; answer = Err e }) in
      (entry ∷ [], tries, is, grew, ([], Appends-nil b, inl (entry, refl, refl, refl, other, tried, refl, refl)))
  turn_refused b f e other (tries, grew, inr (none, same, vain)) = ([], tries, same ∙ sym (append-nil old), grew, ([], Appends-nil b, inr (inl (none, refl, vain, refl, refl))))

-- ---- turns one after another

-- nothing was told yet
pub written-start : (stream : ℕ) (old : List (ℕ × Record)) (had : List Record) (b : Option (List ℕ)) (f : ℕ) → Told old old had had (λ told tried. IsWritten stream told tried (dev b b f f))
written-start stream old had b f = (
  [],
  [],
  sym (append-nil old),
  sym (append-nil had),
  record { are_polls = All-nil (IsPoll stream); are_tries = no_tries stream; granted = All-nil IsGranted; fit = All-nil Fits; wrote = Appends-nil b; none_failed = refl },
)

module _ (stream : ℕ) (old mid new : List (ℕ × Record)) (had now has : List Record) (b m a : Option (List ℕ)) (f g h : ℕ) where
  -- more was told and written
  pub written-more : Told old mid had now (λ told tried. IsWritten stream told tried (dev b m f g)) → Told mid new now has (λ told tried. TurnWrites stream told tried (dev m a g h) (Ok true))
      → Told old new had has (λ told tried. IsWritten stream told tried (dev b a f h))
  written-more (told, tried, is, was, so) (more, tries, next, then_is, (entry, one, then_so)) = (
    told ++ more,
    tried ++ tries,
    behind old mid new told more is next,
    behind had now has tried tries was then_is,
    record {
      are_polls = All-append (IsPoll stream) told more so.are_polls then_so.are_polls;
      are_tries = more_tries stream told more tried tries so.are_tries then_so.are_tries;
      granted = All-append IsGranted told more so.granted then_so.granted;
      fit = subst (λ (l : List Draft). All Fits l) (sym (responses-append told more)) (All-append Fits (responses_of told) (responses_of more) so.fit then_so.fit);
      wrote = subst (Appends b a) (sym (sent-append told more)) (Appends-trans b m a (sent (responses_of told)) (sent (responses_of more)) so.wrote then_so.wrote);
      none_failed = then_so.none_failed ∙ so.none_failed;
    },
  )

  -- the last poll
  pub written-ended : {T : Type 0} (x : T) → Told old mid had now (λ told tried. IsWritten stream told tried (dev b m f g))
      → Told mid new now has (λ told tried. TurnWrites stream told tried (dev m a g h) (Ok false)) → Told old new had has (λ told tried. HasWritten {T = T} stream told tried (dev b a f h) (Ok x))
  written-ended x (told, tried, is, was, so) (last, tries, next, then_is, (is_last, kept, none)) = (
    told ++ last,
    tried ++ tries,
    behind old mid new told last is next,
    behind had now has tried tries was then_is,
    (
      told,
      last,
      tried,
      tries,
      refl,
      refl,
      record {
        are_polls = so.are_polls;
        are_tries = so.are_tries;
        granted = so.granted;
        fit = so.fit;
        wrote = Appends-kept b m a (sent (responses_of told)) so.wrote kept;
        none_failed = none ∙ so.none_failed;
      },
      is_last,
    ),
  )

  -- it stops before
  pub written-stopped : (e : Refusal) → Told old mid had now (λ told tried. IsWritten stream told tried (dev b m f g))
      → Told mid new now has (λ told tried. TurnWrites stream told tried (dev m a g h) (Err e)) → Told old new had has (λ told tried. HasWritten {T = Unit {0}} stream told tried (dev b a f h) (Err e))
  written-stopped e (told, tried, is, was, so) (last, tries, next, then_is, (part, wrote, stop)) = (
    told ++ last,
    tried ++ tries,
    behind old mid new told last is next,
    behind had now has tried tries was then_is,
    (
      told,
      last,
      tried,
      tries,
      part,
      refl,
      refl,
      so.are_polls,
      so.are_tries,
      so.granted,
      so.fit,
      Appends-trans b m a (sent (responses_of told)) part so.wrote wrote,
      subst (λ (s : ℕ). IsStop stream last tries part e (dev b a s h)) so.none_failed stop,
    ),
  )

-- and the close of the stream is asked for
pub written-closed : (stream : ℕ) (old mid new : List (ℕ × Record)) (had now has : List Record) (d : Device) (e : Refusal)
    → Told old mid had now (λ told tried. HasWritten {T = Unit {0}} stream told tried d (Err e)) → Told mid new now has (IsClosing stream)
    → Told old new had has (λ told tried. WritesAll {T = Unit {0}} stream told tried d (Err e))
written-closed stream old mid new had now has d e (polls, before, is, was, written) (closing, tries, next, then_is, closes) =
    (polls ++ closing, before ++ tries, behind old mid new polls closing is next, behind had now has before tries was then_is, (polls, closing, before, tries, refl, refl, written, closes))
