-- How far a stream is served, turn by turn.
use Rattle.std.proofs.Common.{◌≡◌, ◌⊎◌, ◌<◌, ℕ, List, [], ◌∷◌, ◌++◌, Bool, true, false, Option, Some, None, Result, Ok, Err, inl, inr, length, refl, sym, ap, subst, ◌∙◌, append_assoc, append-nil, ◌+◌, arith}
use Rattle.std.specs.Prelude.{All}
use Rattle.std.specs.Io.KnownBytes.{Consumes}
use Rattle.std.proofs.KnownBytes.{Consumes-nil, Consumes-trans, Keeps-refl}
use Rattle.std.proofs.lemmas.Bool.{false≢true, true≢false}
use Rattle.std.proofs.lemmas.Grind.{flat_map-append}
use Rattle.std.proofs.lemmas.List.{length-append}
use Rattle.std.proofs.lemmas.List.Elements.{All-append, All-cons, All-nil}
use Rattle.xds_resource.specs.declared.refusal.Refusal.{Refusal}
use Rattle.xds_message.specs.declared.draft.Draft.{Draft}
use Rattle.xds_ledger.specs.declared.outcome.Outcome.{Outcome}
use Rattle.xds_frames.specs.Frames.{Framed, IsFrame, IsFault, IsPartial, frame_bytes}
use Rattle.xds_frames.proofs.Gatherings.{of_calls as dev}
use Rattle.xds_core.specs.StreamsSeen.{message_of}
use Rattle.xds_core.specs.Streams.{Message}
use Rattle.xds_events.specs.declared.request.Request.{Request}
use Rattle.xds_core.specs.Events as events
use Rattle.xds_core.specs.Steps.{Core, step}
use Rattle.xds_core.specs.Legal.{Record, replayed}
use Rattle.xds_node.specs.Requests.{Spells}
use Rattle.xds_node.specs.Records.{Refuses, answered, asked, polled_out, refused}
use Rattle.xds_node.specs.Sending.{Fits, sent}
use Rattle.xds_node.specs.Serving.{Served, IsServed, Does, frames_of, events_of, sent_by}
use Rattle.xds_node.specs.Ending.{Ends, IsUnread, MessageEnds, PollsEnd}
use Rattle.xds_node.specs.Running.{Serves}
use Rattle.xds_node.specs.Turning.{AnswersOne, Fills, GivesRequest, GoesOn, SendsDue, Turns, left_to_do}
use Rattle.xds_flows.proofs.Passing.{does_nothing, does_then, does_event, does_refused, does_as, replayed_then}

-- ---- a request and its responses

-- a request that was taken, and what came of the polls
pub answered_ok : (n : ℕ) (m : Message) (c k l : Core) (b a : Option (List ℕ)) (f g : ℕ)
    → ((o : Outcome) × (step c (events.Request n m) ≡ Ok (events.Answered o, k)))
    → ((ds : List Draft) × All Fits ds × Does k (dev b a f g) (polled_out n ds) (sent ds) l × (g ≡ f))
    → (o : Outcome) × (ds : List Draft) × All Fits ds × Does c (dev b a f g) (answered n m o ds) (sent ds) l × (g ≡ f)
answered_ok n m c k l b a f g (o, is) (ds, fit, does, none) = (
  o,
  ds,
  fit,
  does_then c k l b b a f f g g (asked n m o ∷ []) (polled_out n ds) [] (sent ds) (does_event c k b b f f (events.Request n m) (events.Answered o) is (Keeps-refl b)) does,
  none,
)

pub answered_err : (n : ℕ) (m : Message) (c k l : Core) (b a : Option (List ℕ)) (f g : ℕ) (e : Refusal)
    → ((o : Outcome) × (step c (events.Request n m) ≡ Ok (events.Answered o, k)))
    → ((last : List Record) × (part : List ℕ) × Does k (dev b a f g) last part l × PollsEnd n k last part e (dev b a f g))
    → (last : List Record) × (part : List ℕ) × Does c (dev b a f g) last part l × MessageEnds n c m last part e (dev b a f g)
answered_err n m c k l b a f g e (o, is) (last, part, does, ends) =
    let first = does_event c k b b f f (events.Request n m) (events.Answered o) is (Keeps-refl b) in (
      asked n m o ∷ last,
      part,
      does_then c k l b b a f f g g (asked n m o ∷ []) last [] part first does,
      inr (inr (o, last, refl, subst (λ (x : Core). PollsEnd n x last part e (dev b a f g)) first.leaves ends)),
    )

pub answered_by : {T : Type 0} (n : ℕ) (m : Message) (c k l : Core) (b a : Option (List ℕ)) (f g : ℕ) (r : Result T Refusal) → ((o : Outcome) × (step c (events.Request n m) ≡ Ok (events.Answered o, k)))
    → SendsDue n k (dev b a f g) r l → AnswersOne n m c (dev b a f g) r l
answered_by n m c k l b a f g (Ok x) taken sends = answered_ok n m c k l b a f g taken sends
answered_by n m c k l b a f g (Err e) taken sends = answered_err n m c k l b a f g e taken sends

-- a request that wasn't
asked_from : (n : ℕ) (m : Message) (c : Core) (b : Option (List ℕ)) (f : ℕ) (e : Refusal) → Refuses c (events.Request n m) e
    → (last : List Record) × (part : List ℕ) × Does c (dev b b f f) last part c × MessageEnds n c m last part e (dev b b f f)
asked_from n m c b f e (inl is) = (refused (events.Request n m) e ∷ [], [], does_refused c b b f f (events.Request n m) e is (Keeps-refl b), inl (refl, refl, refl))
asked_from n m c b f e (inr memory) = ([], [], does_nothing c b f f, inr (inl (memory.0, memory.1, (refl, refl, refl))))

pub asked_err : (n : ℕ) (m : Message) (c left : Core) (b : Option (List ℕ)) (f : ℕ) (e : Refusal) → Refuses c (events.Request n m) e → left ≡ c
    → (last : List Record) × (part : List ℕ) × Does c (dev b b f f) last part left × MessageEnds n c m last part e (dev b b f f)
asked_err n m c left b f e refuses same =
    subst (λ (k : Core). (last : List Record) × (part : List ℕ) × Does c (dev b b f f) last part k × MessageEnds n c m last part e (dev b b f f)) (sym same) (asked_from n m c b f e refuses)

-- ---- turns

-- what was given where it was a message, or none
pub given : (held after : List ℕ) (o : Option Request) (q : Request) → GivesRequest held (Ok o) after → o ≡ Some q → (x : Framed) × IsFrame x × (held ≡ frame_bytes x ++ after) × Spells x (message_of q)
given held after o q gives is = subst (λ (x : Option Request). GivesRequest held (Ok x) after) is gives

pub given_none : (held after : List ℕ) (o : Option Request) → GivesRequest held (Ok o) after → o ≡ None → IsPartial held × (after ≡ held)
given_none held after o gives is = subst (λ (x : Option Request). GivesRequest held (Ok x) after) is gives

-- a turn that answers a message
pub turn_answers : (n : ℕ) (m : Message) (c k : Core) (held after : List ℕ) (r b a : Option (List ℕ)) (i f g : ℕ)
    → ((x : Framed) × IsFrame x × (held ≡ frame_bytes x ++ after) × Spells x m)
    → ((o : Outcome) × (ds : List Draft) × All Fits ds × Does c (dev b a f g) (answered n m o ds) (sent ds) k × (g ≡ f))
    → GoesOn n c held (dev r r i i) (dev b a f g) k after
turn_answers n m c k held after r b a i f g (x, is_frame, begins, spells) (o, ds, fit, does, none) =
    let one : Served = record { frame = x; message = m; outcome = o; responses = ds } in
    record {
      came = [];
      served = one ∷ [];
      read = Consumes-nil r;
      joined = append-nil held ∙ begins ∙ ap (λ l. l ++ after) (sym (append-nil (frame_bytes x)));
      are_served = All-cons IsServed one [] (record { is_frame = is_frame; spells = spells; fit = fit }) (All-nil IsServed);
      does = does_as c k (dev b a f g) _ _ _ _ (sym (append-nil (answered n m o ds))) (sym (append-nil (sent ds))) does;
      none_failed = (refl, none);
    }

-- how a stream is served to its end from here, in one turn
module _ (n : ℕ) (c l : Core) (held : List ℕ) where
  ends_here : (T : Type 0) (res : Result T Refusal) (r q b a : Option (List ℕ)) (i j f g : ℕ) (came rest : List ℕ) (last : List Record) (part : List ℕ) → Consumes r q came → held ++ came ≡ rest
      → Does c (dev b a f g) last part l → Ends n c rest last part res (dev r q i j) (dev b a f g) → Serves {T = T} n c held (dev r q i j) (dev b a f g) res l
  ends_here T res r q b a i j f g came rest last part read joined does ends = record {
    came = came;
    served = [];
    rest = rest;
    last = last;
    part = part;
    read = read;
    joined = joined;
    are_served = All-nil IsServed;
    does = does;
    ends = ends;
  }

  -- at a message
  pub turn_stops : (m : Message) (after : List ℕ) (r b a : Option (List ℕ)) (i f g : ℕ) (e : Refusal) → ((x : Framed) × IsFrame x × (held ≡ frame_bytes x ++ after) × Spells x m)
      → ((last : List Record) × (part : List ℕ) × Does c (dev b a f g) last part l × MessageEnds n c m last part e (dev b a f g))
      → Serves {T = Bool} n c held (dev r r i i) (dev b a f g) (Err e) l
  turn_stops m after r b a i f g e (x, is_frame, begins, spells) (last, part, does, ends) =
      ends_here Bool (Err e) r r b a i i f g [] held last part (Consumes-nil r) (append-nil held) does (inr (x, after, is_frame, begins, refl, inr (m, spells, ends)))

-- at a frame that isn't read, or a fault
pub turn_refused : (n : ℕ) (c : Core) (held : List ℕ) (r b : Option (List ℕ)) (i f : ℕ) (e : Refusal)
    → IsFault held e ⊎ ((x : Framed) × (more : List ℕ) × IsFrame x × (held ≡ frame_bytes x ++ more) × IsUnread x e) → Serves {T = Bool} n c held (dev r r i i) (dev b b f f) (Err e) c
turn_refused n c held r b i f e (inl fault) =
    ends_here n c c held Bool (Err e) r r b b i i f f [] held [] [] (Consumes-nil r) (append-nil held) (does_nothing c b f f) (inl (inl (fault, refl), (refl, refl, refl)))
turn_refused n c held r b i f e (inr (x, more, is_frame, begins, unread)) =
    ends_here n c c held Bool (Err e) r r b b i i f f [] held [] [] (Consumes-nil r) (append-nil held) (does_nothing c b f f) (inr (x, more, is_frame, begins, refl, inl (unread, (refl, refl, refl))))

-- a turn that reads a piece, or finds the end
pub turn_fills : (n : ℕ) (c : Core) (held after : List ℕ) (r q b : Option (List ℕ)) (i j f : ℕ) → Fills held (dev r q i j) (Ok true) after → GoesOn n c held (dev r q i j) (dev b b f f) c after
turn_fills n c held after r q b i j f (none, (piece, read, joined)) = record {
  came = piece;
  served = [];
  read = read;
  joined = sym joined;
  are_served = All-nil IsServed;
  does = does_nothing c b f f;
  none_failed = (none, refl);
}

pub turn_ends : (n : ℕ) (c : Core) (held after : List ℕ) (r q b : Option (List ℕ)) (i j f : ℕ) → Fills held (dev r q i j) (Ok false) after → Serves {T = Bool} n c held (dev r q i j) (dev b b f f) (Ok false) c
turn_ends n c held after r q b i j f (none, at_end, read, nothing) =
    ends_here n c c held Bool (Ok false) r q b b i j f f [] held [] [] read (append-nil held) (does_nothing c b f f) (nothing, at_end, none, (refl, refl, refl))

pub turn_fails : (n : ℕ) (c : Core) (held after : List ℕ) (r q b : Option (List ℕ)) (i j f : ℕ) (e : Refusal) → IsPartial held → Fills held (dev r q i j) (Err e) after
    → Serves {T = Bool} n c held (dev r q i j) (dev b b f f) (Err e) c
turn_fails n c held after r q b i j f e partial (inl (is, failed, read)) =
    ends_here n c c held Bool (Err e) r q b b i j f f [] held [] [] read (append-nil held) (does_nothing c b f f) (inl (inr (inr (inl (is, partial, failed))), (refl, refl, refl)))
turn_fails n c held after r q b i j f e partial (inr (inl (is, some, at_end, none, read))) =
    ends_here n c c held Bool (Err e) r q b b i j f f [] held [] [] read (append-nil held) (does_nothing c b f f) (inl (inr (inl (is, partial, some, at_end, none)), (refl, refl, refl)))
turn_fails n c held after r q b i j f e partial (inr (inr (is, none, (piece, read)))) =
    ends_here n c c held Bool (Err e) r q b b i j f f piece (held ++ piece) [] [] read refl (does_nothing c b f f) (inl (inr (inr (inr (is, (held, piece, partial, refl), none))), (refl, refl, refl)))

turn_reads : (n : ℕ) (c : Core) (held after : List ℕ) (r q b : Option (List ℕ)) (i j f : ℕ) (res : Result Bool Refusal) → IsPartial held → Fills held (dev r q i j) res after
    → Turns n c held (dev r q i j) (dev b b f f) res c after
turn_reads n c held after r q b i j f (Ok true) partial fills = turn_fills n c held after r q b i j f fills
turn_reads n c held after r q b i j f (Ok false) partial fills = turn_ends n c held after r q b i j f fills
turn_reads n c held after r q b i j f (Err e) partial fills = turn_fails n c held after r q b i j f e partial fills

pub turn_filled : (n : ℕ) (c : Core) (held mid after : List ℕ) (r q b : Option (List ℕ)) (i j f : ℕ) (res : Result Bool Refusal) → IsPartial held × (mid ≡ held) → Fills mid (dev r q i j) res after
    → Turns n c held (dev r q i j) (dev b b f f) res c after
turn_filled n c held mid after r q b i j f res (partial, same) fills =
    turn_reads n c held after r q b i j f res partial (subst (λ (x : List ℕ). Fills x (dev r q i j) res after) same fills)

-- a message that was answered is no more to be done
pub falls : (calls : ℕ) (m : Message) (held after : List ℕ) → ((x : Framed) × IsFrame x × (held ≡ frame_bytes x ++ after) × Spells x m) → left_to_do calls after < left_to_do calls held
falls calls m held after (x, is_frame, begins, spells) =
    let size : length held ≡ length (frame_bytes x) + length after = ap (λ (l : List ℕ). length l) begins ∙ length-append (frame_bytes x) after in
    omega (arith, size)

-- ---- turns one after another

pub goes-start : (n : ℕ) (c : Core) (held : List ℕ) (r b : Option (List ℕ)) (i f : ℕ) → held ≡ [] → GoesOn n c [] (dev r r i i) (dev b b f f) c held
goes-start n c held r b i f none = record {
  came = [];
  served = [];
  read = Consumes-nil r;
  joined = sym none;
  are_served = All-nil IsServed;
  does = does_nothing c b f f;
  none_failed = (refl, refl);
}

joined_then : (held came after more left : List ℕ) (first second : List ℕ) → held ++ came ≡ first ++ after → after ++ more ≡ second ++ left → held ++ (came ++ more) ≡ (first ++ second) ++ left
joined_then held came after more left first second one two =
    sym (append_assoc held came more) ∙ ap (λ l. l ++ more) one ∙ append_assoc first after more ∙ ap (λ l. first ++ l) two ∙ sym (append_assoc first second left)

pub goes-more : (n : ℕ) (c k l : Core) (held after left : List ℕ) (r q p b m a : Option (List ℕ)) (i j h f g d : ℕ) → GoesOn n c held (dev r q i j) (dev b m f g) k after
    → GoesOn n k after (dev q p j h) (dev m a g d) l left → GoesOn n c held (dev r p i h) (dev b a f d) l left
goes-more n c k l held after left r q p b m a i j h f g d first second = record {
  came = first.came ++ second.came;
  served = first.served ++ second.served;
  read = Consumes-trans r q p first.came second.came first.read second.read;
  joined = joined_then held first.came after second.came left (frames_of first.served) (frames_of second.served) first.joined second.joined
      ∙ ap (λ x. x ++ left) (sym (flat_map-append (λ s. frame_bytes s.frame) first.served second.served));
  are_served = All-append IsServed first.served second.served first.are_served second.are_served;
  does = does_as c l (dev b a f d) _ _ _ _ (sym (flat_map-append (λ s. answered n s.message s.outcome s.responses) first.served second.served))
      (sym (flat_map-append (λ s. sent s.responses) first.served second.served)) (does_then c k l b m a f g d d _ _ _ _ first.does second.does);
  none_failed = (second.none_failed.0 ∙ first.none_failed.0, second.none_failed.1 ∙ first.none_failed.1);
}

pub goes-on : (n : ℕ) (c k l : Core) (held after left : List ℕ) (r q p b m a : Option (List ℕ)) (i j h f g d : ℕ) (more : Bool) → GoesOn n c held (dev r q i j) (dev b m f g) k after
    → Turns n k after (dev q p j h) (dev m a g d) (Ok more) l left → more ≡ true → GoesOn n c held (dev r p i h) (dev b a f d) l left
goes-on n c k l held after left r q p b m a i j h f g d true first second is = goes-more n c k l held after left r q p b m a i j h f g d first second
goes-on n c k l held after left r q p b m a i j h f g d false first second is = absurd (false≢true is)

-- a run that is served on from here, and ends
module _ (n : ℕ) (c k l : Core) (held after : List ℕ) (r q p b m a : Option (List ℕ)) (i j h f g d : ℕ) (first : GoesOn n c held (dev r q i j) (dev b m f g) k after) where
  serves_with : (T U : Type 0) (one : Result T Refusal) (res : Result U Refusal) (second : Serves {T = T} n k after (dev q p j h) (dev m a g d) one l)
      → ((core : Core) (rest : List ℕ) (last : List Record) (part : List ℕ) → Ends {T = T} n core rest last part one (dev q p j h) (dev m a g d) → Ends {T = U} n core rest last part res (dev r p i h) (dev b a f d))
      → Serves {T = U} n c held (dev r p i h) (dev b a f d) res l
  serves_with T U one res second same = record {
    came = first.came ++ second.came;
    served = first.served ++ second.served;
    rest = second.rest;
    last = second.last;
    part = second.part;
    read = Consumes-trans r q p first.came second.came first.read second.read;
    joined = joined_then held first.came after second.came second.rest (frames_of first.served) (frames_of second.served) first.joined second.joined
        ∙ ap (λ x. x ++ second.rest) (sym (flat_map-append (λ s. frame_bytes s.frame) first.served second.served));
    are_served = All-append IsServed first.served second.served first.are_served second.are_served;
    does = does_as c l (dev b a f d) _ _ _ _ events texts (does_then c k l b m a f g d d _ _ _ _ first.does second.does);
    ends = subst (λ (core : Core). Ends {T = U} n core second.rest second.last second.part res (dev r p i h) (dev b a f d)) cores (same _ second.rest second.last second.part second.ends);
  }
    where
      events : events_of n first.served ++ (events_of n second.served ++ second.last) ≡ events_of n (first.served ++ second.served) ++ second.last
      events = sym (append_assoc (events_of n first.served) (events_of n second.served) second.last)
          ∙ ap (λ x. x ++ second.last) (sym (flat_map-append (λ s. answered n s.message s.outcome s.responses) first.served second.served))

      texts : sent_by first.served ++ (sent_by second.served ++ second.part) ≡ sent_by (first.served ++ second.served) ++ second.part
      texts = sym (append_assoc (sent_by first.served) (sent_by second.served) second.part) ∙ ap (λ x. x ++ second.part) (sym (flat_map-append (λ s. sent s.responses) first.served second.served))

      cores : replayed k (events_of n second.served) ≡ replayed c (events_of n (first.served ++ second.served))
      cores = ap (λ x. replayed x (events_of n second.served)) first.does.leaves ∙ sym (replayed_then c (events_of n first.served) (events_of n second.served))
          ∙ ap (replayed c) (sym (flat_map-append (λ s. answered n s.message s.outcome s.responses) first.served second.served))

  ends_well : {T U : Type 0} (x : T) (u : U) (core : Core) (rest : List ℕ) (last : List Record) (part : List ℕ) → Ends {T = T} n core rest last part (Ok x) (dev q p j h) (dev m a g d)
      → Ends {T = U} n core rest last part (Ok u) (dev r p i h) (dev b a f d)
  ends_well x u core rest last part ends = (ends.0, ends.1, ends.2 ∙ first.none_failed.0, (ends.3.0, ends.3.1, ends.3.2 ∙ first.none_failed.1))

  ends_badly : (T U : Type 0) (e : Refusal) (core : Core) (rest : List ℕ) (last : List Record) (part : List ℕ) → Ends {T = T} n core rest last part (Err e) (dev q p j h) (dev m a g d)
      → Ends {T = U} n core rest last part (Err e) (dev r p i h) (dev b a f d)
  ends_badly T U e core rest last part ends =
      subst (λ (s : ℕ). Ends {T = U} n core rest last part (Err e) (dev r p s h) (dev b a f d)) first.none_failed.0
      (subst (λ (s : ℕ). Ends {T = U} n core rest last part (Err e) (dev q p j h) (dev m a s d)) first.none_failed.1 ends)

  pub serves-ok : {U : Type 0} (left : List ℕ) (more : Bool) (u : U) → Turns n k after (dev q p j h) (dev m a g d) (Ok more) l left → more ≡ false → Serves {T = U} n c held (dev r p i h) (dev b a f d) (Ok u) l
  serves-ok {U} left true u turns is = absurd (true≢false is)
  serves-ok {U} left false u turns is = serves_with Bool U (Ok false) (Ok u) turns (ends_well false u)

  pub serves-err : {U : Type 0} (e : Refusal) → Serves {T = Bool} n k after (dev q p j h) (dev m a g d) (Err e) l → Serves {T = U} n c held (dev r p i h) (dev b a f d) (Err e) l
  serves-err {U} e second = serves_with Bool U (Err e) (Err e) second (ends_badly Bool U e)
