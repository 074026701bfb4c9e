-- How far the responses of a stream were written, where one may be under way.
use Rattle.std.proofs.Common.{◌≡◌, ◌≢◌, ◌+◌, ◌<◌, ℕ, List, [], ◌∷◌, ◌++◌, true, false, Option, Some, None, Result, Ok, Err, inl, inr, refl, sym, ap, subst, ◌∙◌, append_assoc, append-nil, length, take, drop, arith, eqb-true, length-append, ◌≤◌}
use Rattle.std.specs.Bool.{◌==◌}
use Rattle.std.specs.Prelude.{All, IsSome, MatchResult, is_some}
use Rattle.futures.specs.declared.task.Poll.TheVariants.{Ready}
use Rattle.std.specs.Io.KnownBytes.{Appends}
use Rattle.std.proofs.KnownBytes.{Appends-nil, Appends-trans, Keeps-refl}
use Rattle.std.proofs.lemmas.Bool.{false≢true}
use Rattle.std.proofs.lemmas.List.Elements.{All-append, All-nil}
use Rattle.std.proofs.Math.Seq.{take-append-add, take-append_seam}
use Rattle.std.proofs.lemmas.List.{drop-append-le, take-append-drop}
use Rattle.xds_resource.specs.declared.refusal.Refusal.{Refusal}
use Rattle.xds_resource.specs.declared.refusal.Refusal.TheVariants.{OutOfMemory, Device as DeviceRefusal}
use Rattle.xds_message.specs.declared.draft.Draft.{Draft}
use Rattle.xds_message.specs.Unsent.{IsFrontOf}
use Rattle.xds_frames.specs.Devices.{MoreFailed}
use Rattle.xds_frames.specs.Frames.{frame_bytes}
use Rattle.xds_core.specs.Events.{Reply}
use Rattle.xds_core.specs.Legal.{Record}
use Rattle.xds_node.specs.Sending.{Fits, frame_of, sent}
use Rattle.xds_node.specs.Turning.{draft_in}
use Rattle.xds_node.specs.WorkersTold.{IsClosing, IsGranted}
use Rattle.xds_flows.specs.Writing.{HasWritten, IsPoll, IsWritten, TurnWrites, WritesAll, responses_of}
use Rattle.xds_flows.specs.Owing.{Asked, Begins, BeginsGiven, Closes, GivesUp, Goes, GoesGiven, Polls, PutsOnce, PutsSome, WriteAt, WriteLeads, WritesFrom, WritesOn, taken_by, write_at}
use Rattle.xds_flows.specs.Waiting.{Takes}
use Rattle.xds_flows.specs.declared.streams.poll_writer.WriteEnd.{WriteEnd}
use Rattle.xds_frames.specs.declared.counted.Counted.{Counted}
use Rattle.xds_frames.proofs.Gatherings.{of_calls as dev}
use Rattle.xds_node.proofs.Callings.{Told, behind}
use Rattle.xds_flows.proofs.Writings.{more_tries, no_tries, responses-append, sent-append, turn_ended, turn_refused, turn_stopped, turn_wrote}

abbrev pub at : List (ℕ × Record) → List Record → Option Draft → List ℕ → Option (List ℕ) → ℕ → WriteAt
at told refused given owed holds failed = record { told = told; refused = refused; given = given; owed = owed; holds = holds; failed = failed }

none_left : (l : List ℕ) → true ≡ (length l == 0) → l ≡ []
none_left [] h = refl
none_left (x ∷ l) h = absurd (omega (arith, eqb-true (length (x ∷ l)) 0 (sym h)))

pub some_left : (l : List ℕ) → false ≡ (length l == 0) → 0 < length l
some_left [] h = absurd (false≢true h)
some_left (x ∷ l) h = omega arith

pub none_given : (g : Option Draft) → false ≡ is_some g → g ≡ None
none_given None h = refl
none_given (Some d) h = absurd (false≢true h)

pub some_given : (g : Option Draft) → true ≡ is_some g → IsSome g
some_given None h = absurd (false≢true (sym h))
some_given (Some d) h = refl

-- ---- polls before others

module _ (stream : ℕ) (xs ys : List (ℕ × Record)) (tried tries : List Record) (b m z : Option (List ℕ)) (f g : ℕ) where
  both : IsWritten stream xs tried (dev b m f f) → IsWritten stream ys tries (dev m z f g) → IsWritten stream (xs ++ ys) (tried ++ tries) (dev b z f g)
  both so then_so = record {
    are_polls = All-append (IsPoll stream) xs ys so.are_polls then_so.are_polls;
    are_tries = more_tries stream xs ys tried tries so.are_tries then_so.are_tries;
    granted = All-append IsGranted xs ys so.granted then_so.granted;
    fit = subst (λ (l : List Draft). All Fits l) (sym (responses-append xs ys)) (All-append Fits (responses_of xs) (responses_of ys) so.fit then_so.fit);
    wrote = subst (Appends b z) (sym (sent-append xs ys)) (Appends-trans b m z (sent (responses_of xs)) (sent (responses_of ys)) so.wrote then_so.wrote);
    none_failed = then_so.none_failed;
  }

pub before : (stream : ℕ) (xs ys : List (ℕ × Record)) (tried tries : List Record) (b m z : Option (List ℕ)) (f g : ℕ) (r : Result (Unit {0}) Refusal) → IsWritten stream xs tried (dev b m f f)
    → HasWritten stream ys tries (dev m z f g) r → HasWritten stream (xs ++ ys) (tried ++ tries) (dev b z f g) r
before stream xs ys tried tries b m z f g (Ok x) so (polls, last, first, later, is, was, written, is_last) = (
  xs ++ polls,
  last,
  tried ++ first,
  later,
  ap (λ l. xs ++ l) is ∙ sym (append_assoc xs polls last),
  ap (λ (l : List Record). tried ++ l) was ∙ sym (append_assoc tried first later),
  both stream xs polls tried first b m z f g so written,
  is_last,
)
before stream xs ys tried tries b m z f g (Err e) so (polls, last, first, later, part, is, was, are_polls, are_tries, granted, fit, wrote, stop) = (
  xs ++ polls,
  last,
  tried ++ first,
  later,
  part,
  ap (λ l. xs ++ l) is ∙ sym (append_assoc xs polls last),
  ap (λ (l : List Record). tried ++ l) was ∙ sym (append_assoc tried first later),
  All-append (IsPoll stream) xs polls so.are_polls are_polls,
  more_tries stream xs polls tried first so.are_tries are_tries,
  All-append IsGranted xs polls so.granted granted,
  subst (λ (l : List Draft). All Fits l) (sym (responses-append xs polls)) (All-append Fits (responses_of xs) (responses_of polls) so.fit fit),
  subst (Appends b z)
      (sym (append_assoc (sent (responses_of xs)) (sent (responses_of polls)) part) ∙ ap (λ l. l ++ part) (sym (sent-append xs polls)))
      (Appends-trans b m z (sent (responses_of xs)) (sent (responses_of polls) ++ part) so.wrote wrote),
  stop,
)

-- it stops at the first poll
stopped : (stream : ℕ) (told : List (ℕ × Record)) (tried : List Record) (b z : Option (List ℕ)) (f g : ℕ) (e : Refusal) → TurnWrites stream told tried (dev b z f g) (Err e)
    → HasWritten {T = Unit {0}} stream told tried (dev b z f g) (Err e)
stopped stream told tried b z f g e (part, wrote, stop) =
    ([], told, [], tried, part, refl, refl, All-nil (IsPoll stream), no_tries stream, All-nil IsGranted, All-nil Fits, wrote, stop)

-- ---- what is under way

module _ (stream : ℕ) (told : List (ℕ × Record)) (refused : List Record) (given : Option Draft) (owed left : List ℕ) (b a : Option (List ℕ)) (f g : ℕ) where
  -- the front of what is owed was written
  goes_back : (more : List (ℕ × Record)) (tries : List Record) (r : Result (Unit {0}) Refusal) (z : WriteAt) → PutsSome (dev b a f g) owed left → g ≡ f
      → Goes stream more tries (at told refused given left a g) r z → Goes stream more tries (at told refused given owed b f) r z
  goes_back more tries r z (put, wrote, is) none (inl (mid, later, so)) = inl (
    mid,
    subst (Appends b mid) (sym is) (Appends-trans b a mid put left wrote later),
    subst (λ (i : ℕ). GoesGiven stream more tries given (dev mid z.holds i z.failed) r) none so,
  )
  goes_back more tries r z (put, wrote, is) none (inr (some, is_err, nothing, no_more, failure, (k, later))) = inr (
    omega (arith, some, ap (λ l. length l) is, length-append put left),
    is_err,
    nothing,
    no_more,
    subst (λ (i : ℕ). MoreFailed i z.failed) none failure,
    (length put + k, subst (Appends b z.holds) (sym (ap (take (length put + k)) is ∙ take-append-add put left k)) (Appends-trans b a z.holds put (take k left) wrote later)),
  )

  pub put_leads : PutsSome (dev b a f g) owed left → g ≡ f → WriteLeads stream (at told refused given owed b f) (at told refused given left a g)
  put_leads puts none = λ r z (more, tries, is, was, goes). (more, tries, is, was, goes_back more tries r z puts none goes)

  -- or the writer failed
  pub put_ends : (e : Refusal) → false ≡ (length owed == 0) → PutsSome (dev b a f g) owed left → e ≡ DeviceRefusal → MoreFailed f g
      → WritesFrom {T = Unit {0}} stream (at told refused given owed b f) (Err e) (at told refused given left a g)
  put_ends e some (put, wrote, is) device failure = (
    [],
    [],
    sym (append-nil told),
    sym (append-nil refused),
    inr (some_left owed some, ap Err device, refl, refl, failure, (length put, subst (Appends b a) (sym (ap (take (length put)) is ∙ take-append_seam put left)) wrote)),
  )

-- ---- what is given

module _ (stream : ℕ) (told : List (ℕ × Record)) (refused : List Record) (response : Draft) (left : List ℕ) (b a : Option (List ℕ)) (f g : ℕ) where
  -- its frame was begun
  begun : (more : List (ℕ × Record)) (tries : List Record) (r : Result (Unit {0}) Refusal) (z : WriteAt) → Begins response (dev b a f g) (Ok left)
      → Goes stream more tries (at told refused None left a g) r z → Goes stream more tries (at told refused (Some response) [] b f) r z
  begun more tries r z (fits, (put, wrote, is), none) (inl (mid, later, so)) = inl (
    b,
    Appends-nil b,
    inl (
      mid,
      fits,
      subst (Appends b mid) (sym is) (Appends-trans b a mid put left wrote later),
      subst (λ (i : ℕ). HasWritten stream more tries (dev mid z.holds i z.failed) r) none so,
    ),
  )
  begun more tries r z (fits, (put, wrote, is), none) (inr (some, is_err, nothing, no_more, failure, (k, later))) =
      let bytes = frame_bytes (frame_of response) in
      let n = length put + k in
      let part : Appends b z.holds (take n bytes) = subst (Appends b z.holds) (sym (ap (take n) is ∙ take-append-add put left k)) (Appends-trans b a z.holds put (take k left) wrote later) in
      inl (
        b,
        Appends-nil b,
        inr (
          DeviceRefusal,
          is_err,
          nothing,
          no_more,
          (take n bytes, part, inr (inr (refl, fits, subst (λ (i : ℕ). MoreFailed i z.failed) none failure, (n, refl)))),
        ),
      )

  begun_leads : Begins response (dev b a f g) (Ok left) → WriteLeads stream (at told refused (Some response) [] b f) (at told refused None left a g)
  begun_leads begins = λ r z (more, tries, is, was, goes). (more, tries, is, was, begun more tries r z begins goes)

  -- or it isn't sent
  begun_ends : (e : Refusal) (after : Option Draft) (owed : List ℕ) → Begins response (dev b a f g) (Err e)
      → WritesFrom {T = Unit {0}} stream (at told refused (Some response) [] b f) (Err e) (at told refused after owed a g)
  begun_ends e after owed unsent = ([], [], sym (append-nil told), sym (append-nil refused), inl (b, Appends-nil b, inr (e, refl, refl, refl, unsent)))

module _ (stream : ℕ) (told : List (ℕ × Record)) (refused : List Record) (given after : Option Draft) (owed left : List ℕ) (b a : Option (List ℕ)) (f g : ℕ) where
  leads_given : (o : Option Draft) → BeginsGiven {T = Unit {0}} o after (dev b a f g) left (Ok tt) → WriteLeads stream (at told refused o [] b f) (at told refused after left a g)
  leads_given None begins = absurd begins
  leads_given (Some response) (begins, none) =
      subst (λ (o : Option Draft). WriteLeads stream (at told refused (Some response) [] b f) (at told refused o left a g)) (sym none) (begun_leads stream told refused response left b a f g begins)

  pub begin_leads : true ≡ (length owed == 0) → BeginsGiven {T = Unit {0}} given after (dev b a f g) left (Ok tt) → WriteLeads stream (at told refused given owed b f) (at told refused after left a g)
  begin_leads none begins =
      subst (λ (o : List ℕ). WriteLeads stream (at told refused given o b f) (at told refused after left a g)) (sym (none_left owed none)) (leads_given given begins)

  ends_given : (o : Option Draft) (e : Refusal) → BeginsGiven {T = Unit {0}} o after (dev b a f g) left (Err e) → WritesFrom {T = Unit {0}} stream (at told refused o [] b f) (Err e) (at told refused after left a g)
  ends_given None e begins = absurd begins
  ends_given (Some response) e begins = begun_ends stream told refused response left b a f g e after left begins

  pub begin_ends : (e : Refusal) → true ≡ (length owed == 0) → BeginsGiven {T = Unit {0}} given after (dev b a f g) left (Err e)
      → WritesFrom {T = Unit {0}} stream (at told refused given owed b f) (Err e) (at told refused after left a g)
  begin_ends e none begins =
      subst (λ (o : List ℕ). WritesFrom {T = Unit {0}} stream (at told refused given o b f) (Err e) (at told refused after left a g)) (sym (none_left owed none)) (ends_given given e begins)

-- ---- a poll

module _ (stream : ℕ) (old new : List (ℕ × Record)) (had has : List Record) (holds : Option (List ℕ)) (failed : ℕ) where
  stays : (m : Option (List ℕ)) → Appends holds m [] → (more : List (ℕ × Record)) (tries : List Record) (r : Result (Unit {0}) Refusal) (z : WriteAt) → HasWritten stream more tries (dev m z.holds failed z.failed) r
      → HasWritten stream more tries (dev holds z.holds failed z.failed) r
  stays m nothing more tries r z so = before stream [] more [] tries holds m z.holds failed z.failed r
      (record { are_polls = All-nil (IsPoll stream); are_tries = no_tries stream; granted = All-nil IsGranted; fit = All-nil Fits; wrote = nothing; none_failed = refl }) so

  -- of this and what comes after it
  and_more : (told more : List (ℕ × Record)) (tried tries : List Record) (m : Option (List ℕ)) (r : Result (Unit {0}) Refusal) (z : WriteAt) → new ≡ old ++ told → has ≡ had ++ tried
      → IsWritten stream told tried (dev holds m failed failed) → z.told ≡ new ++ more → z.refused ≡ has ++ tries → HasWritten stream more tries (dev m z.holds failed z.failed) r
      → WritesFrom stream (at old had None [] holds failed) r z
  and_more told more tried tries m r z grew had_grown written next then_next so = (
    told ++ more,
    tried ++ tries,
    behind old new z.told told more grew next,
    behind had has z.refused tried tries had_grown then_next,
    inl (holds, Appends-nil holds, before stream told more tried tries holds m z.holds failed z.failed r written so),
  )

  -- it ends at the first poll
  from_first : (r : Result (Unit {0}) Refusal) (z : WriteAt) → Told old z.told had z.refused (λ told tried. HasWritten stream told tried (dev holds z.holds failed z.failed) r)
      → WritesFrom stream (at old had None [] holds failed) r z
  from_first r z (told, tried, is, was, so) = (told, tried, is, was, inl (holds, Appends-nil holds, so))

  stops_first : (e : Refusal) (z : WriteAt) → Told old z.told had z.refused (λ told tried. TurnWrites stream told tried (dev holds z.holds failed z.failed) (Err e))
      → WritesFrom {T = Unit {0}} stream (at old had None [] holds failed) (Err e) z
  stops_first e z (told, tried, is, was, stops) = from_first (Err e) z (told, tried, is, was, stopped stream told tried holds z.holds failed z.failed e stops)

  -- a response was given
  given_goes : (reply : Reply) (d : Draft) → Polls stream old new had has (Ok reply) → Some d ≡ draft_in reply → (r : Result (Unit {0}) Refusal) (z : WriteAt) (more : List (ℕ × Record)) (tries : List Record)
      → z.told ≡ new ++ more → z.refused ≡ has ++ tries → Goes stream more tries (at new has (Some d) [] holds failed) r z → WritesFrom stream (at old had None [] holds failed) r z
  given_goes reply d polled some r z more tries next then_next (inl (mid, nothing, inl (m, fits, wrote, so))) =
      let (told, tried, grew, had_grown, (entry, one, written)) =
      turn_wrote stream old new had has reply (Some d) holds m failed failed polled some (fits, Appends-trans holds mid m [] (frame_bytes (frame_of d)) nothing wrote, refl) in
      and_more told more tried tries m r z grew had_grown written next then_next so
  given_goes reply d polled some r z more tries next then_next (inl (mid, nothing, inr (e, is_err, none, no_more, (part, wrote, unsent)))) =
      let stops = turn_stopped stream old new had has reply (Some d) holds z.holds failed z.failed e polled some (part, Appends-trans holds mid z.holds [] part nothing wrote, unsent) in
      let same : z.told ≡ new = subst (λ (l : List (ℕ × Record)). z.told ≡ new ++ l) none next ∙ append-nil new in
      let as_had : z.refused ≡ has = subst (λ (l : List Record). z.refused ≡ has ++ l) no_more then_next ∙ append-nil has in
      subst (λ (x : Result (Unit {0}) Refusal). WritesFrom stream (at old had None [] holds failed) x z) (sym is_err)
      (stops_first e z
      (subst (λ (l : List (ℕ × Record)). Told old l had z.refused (λ told tried. TurnWrites stream told tried (dev holds z.holds failed z.failed) (Err e))) (sym same)
      (subst (λ (l : List Record). Told old new had l (λ told tried. TurnWrites stream told tried (dev holds z.holds failed z.failed) (Err e))) (sym as_had) stops)))
  given_goes reply d polled some r z more tries next then_next (inr (some_owed, is_err, none, no_more, failure, rest)) = absurd (omega (arith, some_owed))

  -- or none
  none_goes : (reply : Reply) → Polls stream old new had has (Ok reply) → None ≡ draft_in reply → (r : Result (Unit {0}) Refusal) (z : WriteAt) (more : List (ℕ × Record)) (tries : List Record)
      → z.told ≡ new ++ more → z.refused ≡ has ++ tries → Goes stream more tries (at new has None [] holds failed) r z → WritesFrom stream (at old had None [] holds failed) r z
  none_goes reply polled none r z more tries next then_next (inl (mid, later, so)) =
      let (told, tried, grew, had_grown, (entry, one, written)) = turn_wrote stream old new had has reply None holds holds failed failed polled none (Keeps-refl holds, refl) in
      and_more told more tried tries holds r z grew had_grown written next then_next (stays mid later more tries r z so)
  none_goes reply polled none r z more tries next then_next (inr (some_owed, is_err, nothing, no_more, failure, rest)) = absurd (omega (arith, some_owed))

  pub asked_at : (o : Option Draft) → Asked {T = Unit {0}} stream old new had has (Ok o) → WriteLeads stream (at old had None [] holds failed) (at new has o [] holds failed)
  asked_at None (reply, polled, none) = λ r z (more, tries, next, then_next, goes). none_goes reply polled none r z more tries next then_next goes
  asked_at (Some d) (reply, polled, some) = λ r z (more, tries, next, then_next, goes). given_goes reply d polled some r z more tries next then_next goes

  -- or it ends
  pub ends_at : (r : Result (Unit {0}) Refusal) (given : Option Draft) (owed : List ℕ) → Asked stream old new had has (Err r) → WritesFrom stream (at old had None [] holds failed) r (at new has given owed holds failed)
  ends_at (Ok x) given owed polled =
      let (told, tried, is, was, (is_last, kept, none)) = turn_ended stream old new had has holds failed polled in
      from_first (Ok x) (at new has given owed holds failed) (
        told,
        tried,
        is,
        was,
        (
          [],
          told,
          [],
          tried,
          refl,
          refl,
          record { are_polls = All-nil (IsPoll stream); are_tries = no_tries stream; granted = All-nil IsGranted; fit = All-nil Fits; wrote = Appends-nil holds; none_failed = refl },
          is_last,
        ),
      )
  ends_at (Err e) given owed (polled, other) = stops_first e (at new has given owed holds failed) (turn_refused stream old new had has holds failed e other polled)

  -- or there is no memory to write what was given
  pub gave_up_at : (r : Result (Unit {0}) Refusal) → GivesUp {T = Unit {0}} stream old new had has (Some r) → WritesFrom stream (at old had None [] holds failed) r (at new has None [] holds failed)
  gave_up_at r (inl asked) = ends_at r None [] asked
  gave_up_at r (inr (d, is, (reply, polled, some))) =
      subst (λ (x : Result (Unit {0}) Refusal). WritesFrom stream (at old had None [] holds failed) x (at new has None [] holds failed)) (sym is)
      (stops_first OutOfMemory (at new has None [] holds failed)
      (turn_stopped stream old new had has reply (Some d) holds holds failed failed OutOfMemory polled some ([], Appends-nil holds, inr (inl (refl, refl, refl)))))

-- where nothing is given or owed
module _ (stream : ℕ) (old new : List (ℕ × Record)) (had has : List Record) (given : Option Draft) (owed : List ℕ) (holds : Option (List ℕ)) (failed : ℕ) where
  pub asked_leads : (o after : Option Draft) → true ≡ (length owed == 0) → given ≡ None → after ≡ o → Asked {T = Unit {0}} stream old new had has (Ok o)
      → WriteLeads stream (at old had given owed holds failed) (at new has after owed holds failed)
  asked_leads o after none no_draft same asked =
      subst (λ (l : List ℕ). WriteLeads stream (at old had given l holds failed) (at new has after l holds failed)) (sym (none_left owed none))
      (subst (λ (d : Option Draft). WriteLeads stream (at old had d [] holds failed) (at new has after [] holds failed)) (sym no_draft)
      (subst (λ (d : Option Draft). WriteLeads stream (at old had None [] holds failed) (at new has d [] holds failed)) (sym same) (asked_at stream old new had has holds failed o asked)))

  pub asked_ends : (r : Result (Unit {0}) Refusal) → true ≡ (length owed == 0) → given ≡ None → Asked stream old new had has (Err r)
      → WritesFrom stream (at old had given owed holds failed) r (at new has given owed holds failed)
  asked_ends r none no_draft asked =
      subst (λ (l : List ℕ). WritesFrom stream (at old had given l holds failed) r (at new has given owed holds failed)) (sym (none_left owed none))
      (subst (λ (d : Option Draft). WritesFrom stream (at old had d [] holds failed) r (at new has given owed holds failed)) (sym no_draft) (ends_at stream old new had has holds failed r given owed asked))

-- ---- writes

-- the front of a chunk was written
puts_chunk : (b a : Option (List ℕ)) (f g n : ℕ) (owed chunk left : List ℕ) → IsFrontOf chunk owed → n ≤ length chunk → Appends b a (take n chunk) → left ≡ drop n owed → PutsSome (dev b a f g) owed left
puts_chunk b a f g n owed chunk left is fits wrote same =
    let rest = drop (length chunk) owed in
    let whole : owed ≡ chunk ++ rest = sym (take-append-drop (length chunk) owed) ∙ ap (λ (l : List ℕ). l ++ rest) is.front in
    let parts : chunk ++ rest ≡ take n chunk ++ (drop n chunk ++ rest) =
    ap (λ (l : List ℕ). l ++ rest) (sym (take-append-drop n chunk)) ∙ append_assoc (take n chunk) (drop n chunk) rest in
    let behind_is : drop n chunk ++ rest ≡ drop n owed = sym (drop-append-le n chunk rest fits) ∙ ap (drop n) (sym whole) in
    (take n chunk, wrote, whole ∙ parts ∙ ap (λ (l : List ℕ). take n chunk ++ l) (behind_is ∙ sym same))

puts_some : {E : Type 0} (b a : Option (List ℕ)) (f g n : ℕ) (owed chunk left : List ℕ) (w : Result ℕ E) → IsFrontOf chunk owed → Takes b a chunk (Ready w) → n ≡ taken_by w → left ≡ drop n owed → PutsSome (dev b a f g) owed left
puts_some b a f g n owed chunk left (Ok k) is (fits, wrote) count same = puts_chunk b a f g k owed chunk left is fits wrote (same ∙ ap (λ (m : ℕ). drop m owed) count)
puts_some b a f g n owed chunk left (Err e) is wrote count same = ([], wrote, sym (same ∙ ap (λ (m : ℕ). drop m owed) count))

-- what a write took is taken from what is owed
puts_by : {E : Type 0} (b a : Option (List ℕ)) (f g n : ℕ) (owed chunk left : List ℕ) (w : Result ℕ E) (r : Result (Unit {0}) Refusal) → IsFrontOf chunk owed → Takes b a chunk (Ready w) → n ≡ taken_by w → left ≡ drop n owed
    → MatchResult r (λ _. g ≡ f) (λ e. (e ≡ DeviceRefusal) × MoreFailed f g) → PutsOnce (dev b a f g) owed left (Ready r)
puts_by b a f g n owed chunk left w (Ok x) is took count same well = (puts_some b a f g n owed chunk left w is took count same, well)
puts_by b a f g n owed chunk left w (Err e) is took count same ill = (puts_some b a f g n owed chunk left w is took count same, ill.0, ill.1)

-- whose end has another name
pub puts_at : {E : Type 0} (b a z : Option (List ℕ)) (f g n : ℕ) (owed chunk left : List ℕ) (w : Result ℕ E) (r : Result (Unit {0}) Refusal) → IsFrontOf chunk owed → Takes b a chunk (Ready w) → n ≡ taken_by w → left ≡ drop n owed
    → MatchResult r (λ _. g ≡ f) (λ e. (e ≡ DeviceRefusal) × MoreFailed f g) → z ≡ a → PutsOnce (dev b z f g) owed left (Ready r)
puts_at b a z f g n owed chunk left w r is took count same ends end =
    subst (λ (x : Option (List ℕ)). PutsOnce (dev b x f g) owed left (Ready r)) (sym end) (puts_by b a f g n owed chunk left w r is took count same ends)

pub fits_owed : {E : Type 0} (b a : Option (List ℕ)) (n : ℕ) (owed chunk : List ℕ) (w : Result ℕ E) → IsFrontOf chunk owed → Takes b a chunk (Ready w) → n ≡ taken_by w → n ≤ length owed
fits_owed b a n owed chunk (Ok k) is took count = omega (arith, is.fits, took.0, count)
fits_owed b a n owed chunk (Err e) is took count = omega (arith, count)

-- ---- and the close

pub leads_on : (stream : ℕ) (a b : WriteAt) → WriteLeads stream a b → (r : Result (Unit {0}) Refusal) (z : WriteAt) → WritesOn stream b r z → WritesOn stream a r z
leads_on stream a b leads r z (polls, closing, first, tries, is, was, goes, closes) =
    let y : WriteAt = record { told = b.told ++ polls; refused = b.refused ++ first; given = None; owed = []; holds = z.holds; failed = z.failed } in
    let (told, tried, next, then_next, then_goes) = leads r y (polls, first, refl, refl, goes) in (
      told,
      closing,
      tried,
      tries,
      is ∙ sym (append_assoc b.told polls closing) ∙ ap (λ l. l ++ closing) next ∙ append_assoc a.told told closing,
      was ∙ sym (append_assoc b.refused first tries) ∙ ap (λ (l : List Record). l ++ tries) then_next ∙ append_assoc a.refused tried tries,
      then_goes,
      closes,
    )

pub writes_on : (stream : ℕ) (a b z : WriteAt) (r : Result (Unit {0}) Refusal) → WritesFrom stream a r b → z.holds ≡ b.holds → z.failed ≡ b.failed
    → Told b.told z.told b.refused z.refused (λ closing tries. Closes stream closing tries r) → WritesOn stream a r z
writes_on stream a b z r (polls, first, is, was, goes) holds failed (closing, tries, next, then_next, closes) = (
  polls,
  closing,
  first,
  tries,
  next ∙ ap (λ l. l ++ closing) is ∙ append_assoc a.told polls closing,
  then_next ∙ ap (λ (l : List Record). l ++ tries) was ∙ append_assoc a.refused first tries,
  subst (λ (i : ℕ). Goes stream polls first a r (at b.told b.refused None [] z.holds i)) (sym failed)
      (subst (λ (l : Option (List ℕ)). Goes stream polls first a r (at b.told b.refused None [] l b.failed)) (sym holds) goes),
  closes,
)

-- the same as an end
pub ended_as : {S W : Type 0} (told : S → List (ℕ × Record)) (refused : S → List Record) (contents : W → Option (List ℕ)) (stream : ℕ) (a : WriteAt) (end : WriteEnd S W) (served : Result (Unit {0}) Refusal) (seat : S) (writer : Counted W)
    → end ≡ record { result = served; seat = seat; writer = writer } → WritesOn stream a served (write_at told refused contents seat None [] writer)
    → WritesOn stream a end.result (write_at told refused contents end.seat None [] end.writer)
ended_as {S} {W} told refused contents stream a end served seat writer is all =
    subst (λ (x : WriteEnd S W). WritesOn stream a x.result (write_at told refused contents x.seat None [] x.writer)) (sym is) all

-- where nothing is under way at first, that is `WritesAll`
pub is_writes_all : (stream : ℕ) (old new : List (ℕ × Record)) (had has : List Record) (b z : Option (List ℕ)) (f g : ℕ) (r : Result (Unit {0}) Refusal) → WritesOn stream (at old had None [] b f) r (at new has None [] z g)
    → Told old new had has (λ told tried. WritesAll stream told tried (dev b z f g) r)
is_writes_all stream old new had has b z f g (Ok x) (polls, closing, first, tries, is, was, inl (mid, later, so), (none, no_more)) = (
  polls,
  first,
  is ∙ ap (λ (l : List (ℕ × Record)). old ++ (polls ++ l)) none ∙ ap (λ (l : List (ℕ × Record)). old ++ l) (append-nil polls),
  was ∙ ap (λ (l : List Record). had ++ (first ++ l)) no_more ∙ ap (λ (l : List Record). had ++ l) (append-nil first),
  stays stream old new had has b f mid later polls first (Ok x) (at new has None [] z g) so,
)
is_writes_all stream old new had has b z f g (Err e) (polls, closing, first, tries, is, was, inl (mid, later, so), closes) =
    (polls ++ closing, first ++ tries, is, was, (polls, closing, first, tries, refl, refl, stays stream old new had has b f mid later polls first (Err e) (at new has None [] z g) so, closes))
is_writes_all stream old new had has b z f g r (polls, closing, first, tries, is, was, inr (some, is_err, nothing, no_more, failure, rest), closes) = absurd (omega (arith, some))

-- nothing is asked for where the stream isn't open
pub not_closed : (stream : ℕ) (old : List (ℕ × Record)) (had : List Record) (served : Result (Unit {0}) Refusal) → served ≡ Ok tt → Told old old had had (λ closing tries. Closes stream closing tries served)
not_closed stream old had served well =
    subst (λ (r : Result (Unit {0}) Refusal). Told old old had had (λ closing tries. Closes stream closing tries r)) (sym well) ([], [], sym (append-nil old), sym (append-nil had), (refl, refl))

pub closed : (stream : ℕ) (old new : List (ℕ × Record)) (had has : List Record) (e : Refusal) (served : Result (Unit {0}) Refusal) → served ≡ Err e → Told old new had has (IsClosing stream)
    → Told old new had has (λ closing tries. Closes stream closing tries served)
closed stream old new had has e served stopped is =
    subst (λ (r : Result (Unit {0}) Refusal). Told old new had has (λ closing tries. Closes stream closing tries r)) (sym stopped) is
