-- How far the requests of a stream were read.
use Rattle.std.proofs.Common.{◌≡◌, ◌⊎◌, ℕ, List, [], ◌∷◌, ◌++◌, Bool, true, false, Option, Some, None, Result, Ok, Err, inl, inr, refl, sym, ap, subst, ◌∙◌, append_assoc, append-nil}
use Rattle.std.specs.Prelude.{IsOk, MatchResult}
use Rattle.std.specs.Io.KnownBytes.{Consumes}
use Rattle.std.proofs.KnownBytes.{Consumes-nil, Consumes-trans}
use Rattle.std.proofs.lemmas.Bool.{false≢true}
use Rattle.std.proofs.lemmas.Grind.{flat_map-append}
use Rattle.std.proofs.lemmas.List.{map-append}
use Rattle.std.proofs.lemmas.List.Elements.{All-append, All-cons, All-nil}
use Rattle.xds_resource.specs.declared.refusal.Refusal.{Refusal}
use Rattle.xds_frames.specs.Frames.{Framed, IsFrame, IsFault, IsPartial, frame_bytes}
use Rattle.xds_frames.specs.Devices.{Device}
use Rattle.xds_frames.proofs.Gatherings.{of_calls as dev}
use Rattle.xds_core.specs.StreamsSeen.{message_of}
use Rattle.xds_core.specs.Streams.{Message}
use Rattle.xds_events.specs.declared.request.Request.{Request}
use Rattle.xds_core.specs.Events as events
use Rattle.xds_core.specs.Legal.{Record}
use Rattle.xds_core.specs.Seen.{answer_of, reply_of}
use Rattle.xds_events.specs.declared.event.Reply.{Reply}
use Rattle.xds_node.specs.Ending.{IsUnread}
use Rattle.xds_node.specs.Turning.{Fills, GivesRequest}
use Rattle.xds_node.specs.WorkersTold.{IsClosing}
use Rattle.xds_flows.specs.Reading.{Asking, Asks, HasRead, IsAsking, IsEnd, IsRead, IsTaken, ReadsAll, TurnReads, bytes_of, told_of, tried_of}
use Rattle.xds_node.proofs.Callings.{Answering, Told, behind}

module _ (stream : ℕ) where
  -- ---- one turn

  -- what a request is answered, with the tries of it that left no record
  abbrev pub AsksAll : Message → List (ℕ × Record) → List (ℕ × Record) → List Record → List Record → Result (Unit {0}) Refusal → Type 0
  AsksAll m old new had has r = (tries : List Record) × (has ≡ had ++ tries) × Asks {T = Unit {0}} stream m old new tries r

  -- a request is taken, or it isn't
  pub asks_ok : (m : Message) (old new : List (ℕ × Record)) (had has : List Record) (reply : events.Reply) → Answering old new had has (events.Request stream m) (Ok reply) → AsksAll m old new had has (Ok tt)
  asks_ok m old new had has reply (tries, grew, ((n, is, below), tried)) =
      let entry : ℕ × Record = (n, record { event = events.Request stream m; answer = Ok reply }) in (tries, grew, (entry, is, refl, refl, tried))

  pub asks_err : (m : Message) (old new : List (ℕ × Record)) (had has : List Record) (e : Refusal) → Answering old new had has (events.Request stream m) (Err e) → AsksAll m old new had has (Err e)
  asks_err m old new had has e (tries, grew, inl ((n, is, below), tried)) =
      let entry : ℕ × Record = (n, record { event = events.Request stream m; answer = Err e }) in (tries, grew, (entry ∷ [], is, inl (entry, refl, refl, refl, tried)))
  asks_err m old new had has e (tries, grew, inr (none, same, tried)) = (tries, grew, ([], same ∙ sym (append-nil old), inr (none, refl, tried)))

  -- of any outcome
  pub asks_by : (m : Message) (old new : List (ℕ × Record)) (had has : List Record) (a : Result Reply Refusal) (r : Result (Unit {0}) Refusal)
      → Answering old new had has (events.Request stream m) (answer_of a) → MatchResult r (λ _. IsOk a) (λ e. a ≡ Err e) → AsksAll m old new had has r
  asks_by m old new had has (Ok reply) (Ok x) answered is = asks_ok m old new had has (reply_of reply) answered
  asks_by m old new had has (Err e) (Ok x) answered is = absurd (false≢true is)
  asks_by m old new had has a (Err e) answered is =
      asks_err m old new had has e (subst (λ (x : Result Reply Refusal). Answering old new had has (events.Request stream m) (answer_of x)) is answered)

  -- a request that is taken
  pub asked : (old new : List (ℕ × Record)) (had has : List Record) (held after : List ℕ) (q : Request) (o : Option Request) (r : Option (List ℕ)) (i : ℕ) → GivesRequest held (Ok o) after → o ≡ Some q
      → AsksAll (message_of q) old new had has (Ok tt) → Told old new had has (λ told tried. IsRead stream told tried held (dev r r i i) after)
  asked old new had has held after q o r i gives some (tries, grew, (entry, is, event, granted, tried)) =
      let (f, is_frame, begins, spells) = subst (λ (x : Option Request). GivesRequest held (Ok x) after) some gives in
      let one : Asking = record { frame = f; message = message_of q; told = entry; tried = tries } in (
        entry ∷ [],
        tries,
        is,
        grew,
        record {
          came = [];
          asked = one ∷ [];
          read = Consumes-nil r;
          joined = append-nil held ∙ begins ∙ ap (λ l. l ++ after) (sym (append-nil (frame_bytes f)));
          are_asked = All-cons (IsAsking stream) one [] (record { is_frame = is_frame; spells = spells; event_is = event; is_tried = tried }) (All-nil (IsAsking stream));
          taken = All-cons IsTaken one [] granted (All-nil IsTaken);
          told_are = refl;
          tried_are = sym (append-nil tries);
          none_failed = refl;
        },
      )

  -- the reading ends with these bytes
  ends : {T : Type 0} (told : List (ℕ × Record)) (tried : List Record) (held came rest : List ℕ) (r q : Option (List ℕ)) (i j : ℕ) (res : Result T Refusal) → Consumes r q came → held ++ came ≡ rest
      → IsEnd stream rest told tried res (dev r q i j) → HasRead {T = T} stream told tried held (dev r q i j) res
  ends told tried held came rest r q i j res read joined is_end = record {
    came = came;
    asked = [];
    rest = rest;
    last = told;
    tries = tried;
    read = read;
    joined = joined;
    are_asked = All-nil (IsAsking stream);
    taken = All-nil IsTaken;
    told_are = refl;
    tried_are = refl;
    ends = is_end;
  }

  -- a request that isn't taken
  pub not_taken : (old new : List (ℕ × Record)) (had has : List Record) (held after : List ℕ) (q : Request) (o : Option Request) (r : Option (List ℕ)) (i : ℕ) (e : Refusal) → GivesRequest held (Ok o) after
      → o ≡ Some q → AsksAll (message_of q) old new had has (Err e) → Told old new had has (λ told tried. HasRead {T = Bool} stream told tried held (dev r r i i) (Err e))
  not_taken old new had has held after q o r i e gives some (tries, grew, (last, is, refused)) =
      let (f, is_frame, begins, spells) = subst (λ (x : Option Request). GivesRequest held (Ok x) after) some gives in
      (last, tries, is, grew, ends last tries held [] held r r i i (Err e) (Consumes-nil r) (append-nil held) (inr (f, after, is_frame, begins, refl, inr (message_of q, spells, refused))))

  -- a frame that isn't read, or a fault
  pub not_read : (old : List (ℕ × Record)) (had : List Record) (held : List ℕ) (r : Option (List ℕ)) (i : ℕ) (e : Refusal)
      → IsFault held e ⊎ ((f : Framed) × (more : List ℕ) × IsFrame f × (held ≡ frame_bytes f ++ more) × IsUnread f e)
      → Told old old had had (λ told tried. HasRead {T = Bool} stream told tried held (dev r r i i) (Err e))
  not_read old had held r i e (inl fault) =
      ([], [], sym (append-nil old), sym (append-nil had), ends [] [] held [] held r r i i (Err e) (Consumes-nil r) (append-nil held) (inl (inl (fault, refl), refl, refl)))
  not_read old had held r i e (inr (f, more, is_frame, begins, unread)) =
      ([], [], sym (append-nil old), sym (append-nil had), ends [] [] held [] held r r i i (Err e) (Consumes-nil r) (append-nil held) (inr (f, more, is_frame, begins, refl, inl (unread, refl, refl))))

  -- a piece is read, or the end is found
  fills : (held after : List ℕ) (r q : Option (List ℕ)) (i j : ℕ) (res : Result Bool Refusal) → IsPartial held → Fills held (dev r q i j) res after → TurnReads stream [] [] held (dev r q i j) res after
  fills held after r q i j (Ok true) partial (none, (piece, read, joined)) = record {
    came = piece;
    asked = [];
    read = read;
    joined = sym joined;
    are_asked = All-nil (IsAsking stream);
    taken = All-nil IsTaken;
    told_are = refl;
    tried_are = refl;
    none_failed = none;
  }
  fills held after r q i j (Ok false) partial (none, at_end, read, nothing) = ends [] [] held [] held r q i j (Ok false) read (append-nil held) (nothing, refl, refl, at_end, none)
  fills held after r q i j (Err e) partial (inl (is, failed, read)) = ends [] [] held [] held r q i j (Err e) read (append-nil held) (inl (inr (inr (inl (is, partial, failed))), refl, refl))
  fills held after r q i j (Err e) partial (inr (inl (is, some, at_end, none, read))) =
      ends [] [] held [] held r q i j (Err e) read (append-nil held) (inl (inr (inl (is, partial, some, at_end, none)), refl, refl))
  fills held after r q i j (Err e) partial (inr (inr (is, none, (piece, read)))) =
      ends [] [] held piece (held ++ piece) r q i j (Err e) read refl (inl (inr (inr (inr (is, (held, piece, partial, refl), none))), refl, refl))

  pub filled : (old : List (ℕ × Record)) (had : List Record) (held mid after : List ℕ) (o : Option Request) (r q : Option (List ℕ)) (i j : ℕ) (res : Result Bool Refusal) → GivesRequest held (Ok o) mid → o ≡ None
      → Fills mid (dev r q i j) res after → Told old old had had (λ told tried. TurnReads stream told tried held (dev r q i j) res after)
  filled old had held mid after o r q i j res gives none fill =
      let (partial, same) = subst (λ (x : Option Request). GivesRequest held (Ok x) mid) none gives in
      ([], [], sym (append-nil old), sym (append-nil had), fills held after r q i j res partial (subst (λ (x : List ℕ). Fills x (dev r q i j) res after) same fill))

  -- ---- turns one after another

  pub reading-start : (old : List (ℕ × Record)) (had : List Record) (held : List ℕ) (r : Option (List ℕ)) (i : ℕ) → held ≡ []
      → Told old old had had (λ told tried. IsRead stream told tried [] (dev r r i i) held)
  reading-start old had held r i none = (
    [],
    [],
    sym (append-nil old),
    sym (append-nil had),
    record {
      came = [];
      asked = [];
      read = Consumes-nil r;
      joined = sym none;
      are_asked = All-nil (IsAsking stream);
      taken = All-nil IsTaken;
      told_are = refl;
      tried_are = refl;
      none_failed = refl;
    },
  )

  joined_then : (held came after more left : List ℕ) (xs ys : List Asking) → held ++ came ≡ bytes_of xs ++ after → after ++ more ≡ bytes_of ys ++ left → held ++ (came ++ more) ≡ bytes_of (xs ++ ys) ++ left
  joined_then held came after more left xs ys one two =
      sym (append_assoc held came more) ∙ ap (λ l. l ++ more) one ∙ append_assoc (bytes_of xs) after more ∙ ap (λ l. bytes_of xs ++ l) two ∙ sym (append_assoc (bytes_of xs) (bytes_of ys) left)
      ∙ ap (λ l. l ++ left) (sym (flat_map-append (λ a. frame_bytes a.frame) xs ys))

  tried_then : (tried more left : List Record) (xs ys : List Asking) → tried ≡ tried_of xs → more ≡ tried_of ys ++ left → tried ++ more ≡ tried_of (xs ++ ys) ++ left
  tried_then tried more left xs ys one two =
      ap (λ (l : List Record). l ++ more) one ∙ ap (λ (l : List Record). tried_of xs ++ l) two ∙ sym (append_assoc (tried_of xs) (tried_of ys) left)
      ∙ ap (λ (l : List Record). l ++ left) (sym (flat_map-append (λ (a : Asking). a.tried) xs ys))

  module _ (old mid new : List (ℕ × Record)) (had now has : List Record) (held after left : List ℕ) (r q p : Option (List ℕ)) (i j h : ℕ) where
    pub reading-more : Told old mid had now (λ told tried. IsRead stream told tried held (dev r q i j) after)
        → Told mid new now has (λ told tried. TurnReads stream told tried after (dev q p j h) (Ok true) left) → Told old new had has (λ told tried. IsRead stream told tried held (dev r p i h) left)
    reading-more (told, tried, is, was, so) (more, tries, next, then_is, then_so) = (
      told ++ more,
      tried ++ tries,
      behind old mid new told more is next,
      behind had now has tried tries was then_is,
      record {
        came = so.came ++ then_so.came;
        asked = so.asked ++ then_so.asked;
        read = Consumes-trans r q p so.came then_so.came so.read then_so.read;
        joined = joined_then held so.came after then_so.came left so.asked then_so.asked so.joined then_so.joined;
        are_asked = All-append (IsAsking stream) so.asked then_so.asked so.are_asked then_so.are_asked;
        taken = All-append IsTaken so.asked then_so.asked so.taken then_so.taken;
        told_are = ap (λ l. l ++ more) so.told_are ∙ ap (λ l. told_of so.asked ++ l) then_so.told_are ∙ sym (map-append (λ a. a.told) so.asked then_so.asked);
        tried_are = ap (λ (l : List Record). l ++ tries) so.tried_are ∙ ap (λ (l : List Record). tried_of so.asked ++ l) then_so.tried_are ∙ sym (flat_map-append (λ (a : Asking). a.tried) so.asked then_so.asked);
        none_failed = then_so.none_failed ∙ so.none_failed;
      },
    )

    pub reads_with : (T U : Type 0) (one : Result T Refusal) (res : Result U Refusal)
        → Told old mid had now (λ told tried. IsRead stream told tried held (dev r q i j) after) → Told mid new now has (λ told tried. HasRead {T = T} stream told tried after (dev q p j h) one)
        → ((rest : List ℕ) (last : List (ℕ × Record)) (tries : List Record) → j ≡ i → IsEnd {T = T} stream rest last tries one (dev q p j h) → IsEnd {T = U} stream rest last tries res (dev r p i h))
        → Told old new had has (λ told tried. HasRead {T = U} stream told tried held (dev r p i h) res)
    reads_with T U one res (told, tried, is, was, so) (more, tries, next, then_is, then_so) same = (
      told ++ more,
      tried ++ tries,
      behind old mid new told more is next,
      behind had now has tried tries was then_is,
      record {
        came = so.came ++ then_so.came;
        asked = so.asked ++ then_so.asked;
        rest = then_so.rest;
        last = then_so.last;
        tries = then_so.tries;
        read = Consumes-trans r q p so.came then_so.came so.read then_so.read;
        joined = joined_then held so.came after then_so.came then_so.rest so.asked then_so.asked so.joined then_so.joined;
        are_asked = All-append (IsAsking stream) so.asked then_so.asked so.are_asked then_so.are_asked;
        taken = All-append IsTaken so.asked then_so.asked so.taken then_so.taken;
        told_are = ap (λ l. l ++ more) so.told_are ∙ ap (λ l. told_of so.asked ++ l) then_so.told_are ∙ sym (append_assoc (told_of so.asked) (told_of then_so.asked) then_so.last)
            ∙ ap (λ l. l ++ then_so.last) (sym (map-append (λ a. a.told) so.asked then_so.asked));
        tried_are = tried_then tried tries then_so.tries so.asked then_so.asked so.tried_are then_so.tried_are;
        ends = same then_so.rest then_so.last then_so.tries so.none_failed then_so.ends;
      },
    )

    pub reading-ended : {U : Type 0} (u : U) → Told old mid had now (λ told tried. IsRead stream told tried held (dev r q i j) after)
        → Told mid new now has (λ told tried. TurnReads stream told tried after (dev q p j h) (Ok false) left) → Told old new had has (λ told tried. HasRead {T = U} stream told tried held (dev r p i h) (Ok u))
    reading-ended {U} u so last = reads_with Bool U (Ok false) (Ok u) so last (λ rest last tries none ends. (ends.0, ends.1, ends.2, ends.3, ends.4 ∙ none))

    pub reading-stopped : (e : Refusal) → Told old mid had now (λ told tried. IsRead stream told tried held (dev r q i j) after)
        → Told mid new now has (λ told tried. TurnReads stream told tried after (dev q p j h) (Err e) left) → Told old new had has (λ told tried. HasRead {T = Unit {0}} stream told tried held (dev r p i h) (Err e))
    reading-stopped e so last =
        reads_with Bool (Unit {0}) (Err e) (Err e) so last
        (λ rest last tries none ends. subst (λ (s : ℕ). IsEnd {T = Unit {0}} stream rest last tries (Err e) (dev r p s h)) none ends)

-- and the close of the stream is asked for behind that
pub reading-closed : {T : Type 0} (stream : ℕ) (old mid new : List (ℕ × Record)) (had now has : List Record) (d : Device) (r : Result T Refusal)
    → Told old mid had now (λ told tried. HasRead {T = T} stream told tried [] d r) → Told mid new now has (IsClosing stream) → Told old new had has (λ told tried. ReadsAll {T = T} stream told tried d r)
reading-closed stream old mid new had now has d r (requests, before, is, was, read) (closing, tries, next, then_is, closes) =
    (requests ++ closing, before ++ tries, behind old mid new requests closing is next, behind had now has before tries was then_is, (requests, closing, before, tries, refl, refl, read, closes))
