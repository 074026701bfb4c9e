-- How far what changed was told, turn by turn.
use Rattle.std.proofs.Common.{◌≡◌, ◌≢◌, ◌==◌, ℕ, List, [], ◌∷◌, ◌++◌, Bool, true, false, Option, Some, None, Result, Ok, Err, inl, inr, length, refl, sym, ap, subst, ◌∙◌, append_assoc, append-nil, arith}
use Rattle.std.specs.Prelude.{All, if◌then◌else◌}
use Rattle.std.specs.List.{flat_map}
use Rattle.std.proofs.lemmas.Bool.{false≢true, ne_eqb}
use Rattle.std.proofs.lemmas.Grind.{flat_map-append}
use Rattle.std.proofs.lemmas.List.Elements.{All-nil, All-push}
use Rattle.xds_resource.specs.declared.refusal.Refusal.{Refusal}
use Rattle.xds_resource.specs.PerType.{PerType, each}
use Rattle.xds_resource.specs.TypedWrites.{TypedWrite}
use Rattle.xds_resource.specs.Writes.{StampedWrite}
use Rattle.xds_frames.specs.Frames.{frame_bytes}
use Rattle.xds_message.specs.Batches.{in_order}
use Rattle.xds_exchange.specs.Parts.{IsNextPart, is_part, parts_behind, parts_of}
use Rattle.xds_core.specs.Events.{Reply, Since}
use Rattle.xds_core.specs.Legal.{Record}
use Rattle.xds_exchange.specs.Ends.{Begins}
use Rattle.xds_flows.specs.declared.replication.exchange.Ended.{Ended}
use Rattle.xds_flows.specs.declared.replication.exchange.Ended.TheVariants as ended
use Rattle.xds_flows.specs.declared.replication.exchange.SendFailure.{SendFailure}
use Rattle.xds_flows.specs.declared.replication.exchange.SendFailure.TheVariants as unsent
use Rattle.xds_flows.specs.declared.replication.parcels.Receipt.{Receipt}
use Rattle.xds_flows.specs.declared.replication.parcels.Receipt.TheVariants.{Merged, Lost}
use Rattle.xds_flows.specs.Parcels.{batch_frame, changed_in, packed, parcels_of}
use Rattle.xds_flows.specs.Exchanging.{Follows, HasTold, IsCutOff, IsGivenUp, IsLastTurn, IsReason, IsTurn, Puts, Settles, Turn, TurnEnds, given_up}
use Rattle.xds_node.proofs.Callings.{Answering}

-- ---- parcels

not_empty : {X : Type 0} (x : X) (xs : List X) → (length (x ∷ xs) == 0) ≡ false
not_empty x xs = ne_eqb (length (x ∷ xs)) 0 (λ (none : length (x ∷ xs) ≡ 0). omega arith)

either_parts : (b : Bool) (ps qs : List (List TypedWrite)) → (length ps == 0) ≡ false → (length qs == 0) ≡ false → (length (if b then ps else qs) == 0) ≡ false
either_parts true ps qs some other = some
either_parts false ps qs some other = other

some_parts : (part ws : List TypedWrite) → (length (parts_behind part ws) == 0) ≡ false
some_parts part [] = not_empty part []
some_parts part (x ∷ xs) = either_parts (is_part (part ++ x ∷ [])) (parts_behind (part ++ x ∷ []) xs) (part ∷ parts_behind (x ∷ []) xs) (some_parts (part ++ x ∷ []) xs) (not_empty part (parts_behind (x ∷ []) xs))

-- there are parts where there are writes
pub parts_empty : (ws : List TypedWrite) → (length (parts_of ws) == 0) ≡ (length ws == 0)
parts_empty [] = refl
parts_empty (x ∷ xs) = some_parts (x ∷ []) xs ∙ sym (not_empty x xs)

none_of : (ps : List (List TypedWrite)) → (length ps == 0) ≡ true → packed ps ≡ []
none_of [] is = refl
none_of (p ∷ ps) is = absurd (false≢true (sym (not_empty p ps) ∙ is))

some_of : (ps : List (List TypedWrite)) → (length ps == 0) ≡ false → packed ps ≢ []
some_of [] is same = absurd (false≢true (sym is))
some_of (p ∷ ps) is same = absurd cc

pub no_parcels : (ws : List TypedWrite) (b : Bool) → b ≡ (length ws == 0) → b ≡ true → parcels_of ws ≡ []
no_parcels ws b is so = none_of (parts_of ws) (parts_empty ws ∙ sym is ∙ so)

pub some_parcels : (ws : List TypedWrite) (b : Bool) → b ≡ (length ws == 0) → b ≡ false → parcels_of ws ≢ []
some_parcels ws b is not_so = some_of (parts_of ws) (parts_empty ws ∙ sym is ∙ not_so)

-- the parcel of the next part, and those behind it
pub next_parcel : (ws left : List TypedWrite) (b : PerType (List StampedWrite)) → IsNextPart ws (Some b) left → parcels_of ws ≡ (frame_bytes (batch_frame b), length left == 0) ∷ parcels_of left
next_parcel ws left b (part, cut, joined, within, some, is) =
    ap packed cut ∙ ap (λ (x : PerType (List StampedWrite)). (frame_bytes (batch_frame x), length (parts_of left) == 0) ∷ packed (parts_of left)) is
    ∙ ap (λ (x : Bool). (frame_bytes (batch_frame b), x) ∷ packed (parts_of left)) (parts_empty left)

-- ---- parcels that are put

-- parcels were put, and these are left
abbrev pub IsPut : List (List ℕ × Bool) → List (List ℕ × Bool) → List (List ℕ × Bool) → List (List ℕ × Bool) → Type 0
IsPut all old new left = (put : List (List ℕ × Bool)) × (new ≡ old ++ put) × (all ≡ put ++ left)

pub put-start : (all old : List (List ℕ × Bool)) → IsPut all old old all
put-start all old = ([], sym (append-nil old), refl)

pub put-more : (all old mid new : List (List ℕ × Bool)) (ws rest : List TypedWrite) (b : PerType (List StampedWrite)) (o : Option (PerType (List StampedWrite))) (last : Bool)
    → IsPut all old mid (parcels_of ws) → IsNextPart ws o rest → o ≡ Some b → last ≡ (length rest == 0)
    → new ≡ mid ++ (frame_bytes (batch_frame b), last) ∷ [] → IsPut all old new (parcels_of rest)
put-more all old mid new ws rest b o last (put, is, cut) next some last_is more =
    let one : List ℕ × Bool = (frame_bytes (batch_frame b), last) in (
      put ++ one ∷ [],
      more ∙ ap (λ l. l ++ one ∷ []) is ∙ append_assoc old put (one ∷ []),
      cut ∙ ap (λ l. put ++ l) (next_parcel ws rest b (subst (λ (x : Option (PerType (List StampedWrite))). IsNextPart ws x rest) some next))
          ∙ ap (λ (x : Bool). put ++ (frame_bytes (batch_frame b), x) ∷ parcels_of rest) (sym last_is) ∙ sym (append_assoc put (one ∷ []) (parcels_of rest)),
    )

pub put-whole : (all old new : List (List ℕ × Bool)) (ws rest : List TypedWrite) (o : Option (PerType (List StampedWrite))) → IsPut all old new (parcels_of ws) → IsNextPart ws o rest → o ≡ None → new ≡ old ++ all
put-whole all old new ws rest o (put, is, cut) next none =
    let empty : ws ≡ [] = (subst (λ (x : Option (PerType (List StampedWrite))). IsNextPart ws x rest) none next).0 in
    is ∙ ap (λ l. old ++ l) (sym (cut ∙ ap (λ (l : List TypedWrite). put ++ parcels_of l) empty ∙ append-nil put))

pub put-stopped : (all old mid new left : List (List ℕ × Bool)) (e : SendFailure) → IsPut all old mid left → new ≡ mid → IsReason e → Puts {T = Unit {0}} all old new (Err e)
put-stopped all old mid new left e (put, is, cut) same reason = (reason, (put, same ∙ is, (left, cut)))

-- nothing of them was put
pub put-none : (all old new : List (List ℕ × Bool)) (e : SendFailure) → new ≡ old → IsReason e → Puts {T = Unit {0}} all old new (Err e)
put-none all old new e same reason = (reason, ([], same ∙ sym (append-nil old), (all, refl)))

-- ---- a batch

module _ (ws order : List TypedWrite) (old new : List (List ℕ × Bool)) (had has : List Receipt) (same : ws ≡ order) where
  pub settles_none : (b : Bool) → b ≡ (length ws == 0) → b ≡ true → new ≡ old ++ parcels_of ws → has ≡ had → Settles (parcels_of order) old new had has (Ok Merged)
  settles_none b is so put none = (put ∙ ap (λ l. old ++ parcels_of l) same, inl (subst (λ (l : List TypedWrite). parcels_of l ≡ []) same (no_parcels ws b is so), refl, none))

  pub settles_one : (b : Bool) (receipt : Receipt) → b ≡ (length ws == 0) → b ≡ false → new ≡ old ++ parcels_of ws → has ≡ had ++ receipt ∷ [] → Settles (parcels_of order) old new had has (Ok receipt)
  settles_one b receipt is not_yet put one =
      (put ∙ ap (λ l. old ++ parcels_of l) same, inr (subst (λ (l : List TypedWrite). parcels_of l ≢ []) same (some_parcels ws b is not_yet), one))

  pub settles_gone : new ≡ old ++ parcels_of ws → has ≡ had → Settles (parcels_of order) old new had has (Err unsent.Unlinked)
  settles_gone put none = (tt, (parcels_of order, put ∙ ap (λ l. old ++ parcels_of l) same, ([], sym (append-nil (parcels_of order)))), none)

  pub settles_err : (e : SendFailure) → Puts {T = Unit {0}} (parcels_of ws) old new (Err e) → has ≡ had → Settles (parcels_of order) old new had has (Err e)
  settles_err e (reason, (put, is, begins)) none = (reason, (put, is, subst (λ (l : List TypedWrite). Begins put (parcels_of l)) same begins), none)

-- ---- one turn

-- a turn that was cut off is one that was given up, and was told something
given_off : (t : Turn) → IsCutOff t → IsGivenUp t
given_off t (again, (entry, since, granted, begins)) = (again, inr (entry, since, begins))

something : (t : Turn) → IsCutOff t → t.told ≢ []
something t (again, (entry, since, granted, begins)) none = one (sym since.0 ∙ none)
  where
    one : entry ∷ [] ≡ [] → ⊥
    one same = absurd cc

module _ (marks : PerType ℕ) (s0 s1 : List (ℕ × Record)) (r0 r1 : List Record) (p0 p1 : List (List ℕ × Bool)) (g0 g1 : List Receipt) where
  -- a turn, from these marks to those, and how it ends
  abbrev pub Turned : PerType ℕ → Result Bool Refusal → Type 0
  Turned after r =
      (t : Turn) × (t.marks ≡ marks) × (t.after ≡ after) × (s1 ≡ s0 ++ t.told) × (r1 ≡ r0 ++ t.tried) × (p1 ≡ p0 ++ t.put) × (g1 ≡ g0 ++ t.receipts) × TurnEnds t r

  pub turn_refused : (after : PerType ℕ) (e : Refusal) → after ≡ each 0 → p1 ≡ p0 → g1 ≡ g0 → Answering s0 s1 r0 r1 (Since marks) (Err e) → Turned after (Err e)
  turn_refused after e zeros put got (tries, grew, inl ((n, is, below), tried)) =
      let entry : ℕ × Record = (n, record { event = Since marks; answer = Err e }) in (
        record { marks = marks; told = entry ∷ []; tried = tries; put = []; receipts = []; after = each 0 },
        refl,
        sym zeros,
        is,
        grew,
        put ∙ sym (append-nil p0),
        got ∙ sym (append-nil g0),
        (((refl, refl), inr (entry, (refl, refl, tried), ([], refl))), inl (entry, refl, refl)),
      )
  turn_refused after e zeros put got (tries, grew, inr (none, is, vain)) = (
    record { marks = marks; told = []; tried = tries; put = []; receipts = []; after = each 0 },
    refl,
    sym zeros,
    is ∙ sym (append-nil s0),
    grew,
    put ∙ sym (append-nil p0),
    got ∙ sym (append-nil g0),
    (((refl, refl), inl (e, (refl, refl, none, vain))), inr (inl (refl, refl, none, vain))),
  )

  merged_by : (after : PerType ℕ) (reply : Reply) (batch : PerType (List StampedWrite)) → Answering s0 s1 r0 r1 (Since marks) (Ok reply) → batch ≡ (changed_in reply).0 → after ≡ (changed_in reply).1
      → Settles (parcels_of (in_order batch)) p0 p1 g0 g1 (Ok Merged) → Turned after (Ok true)
  merged_by after reply batch (tries, grew, ((n, is, below), tried)) batch_is after_is (put, received) =
      let entry : ℕ × Record = (n, record { event = Since marks; answer = Ok reply }) in
      let told_put : p1 ≡ p0 ++ parcels_of (in_order (changed_in reply).0) = put ∙ ap (λ (b : PerType (List StampedWrite)). p0 ++ parcels_of (in_order b)) batch_is in
      elim received [
        | inl (none, merged, same) ↦ (
          record { marks = marks; told = entry ∷ []; tried = tries; put = parcels_of (in_order (changed_in reply).0); receipts = []; after = (changed_in reply).1 },
          refl,
          sym after_is,
          is,
          grew,
          told_put,
          same ∙ sym (append-nil g0),
          (entry, (refl, refl, tried), refl, refl, inl (subst (λ (b : PerType (List StampedWrite)). parcels_of (in_order b) ≡ []) batch_is none, refl, refl)),
        )
        | inr (some, more) ↦ (
          record { marks = marks; told = entry ∷ []; tried = tries; put = parcels_of (in_order (changed_in reply).0); receipts = Merged ∷ []; after = (changed_in reply).1 },
          refl,
          sym after_is,
          is,
          grew,
          told_put,
          more,
          (entry, (refl, refl, tried), refl, refl, inr (inl (subst (λ (b : PerType (List StampedWrite)). parcels_of (in_order b) ≢ []) batch_is some, refl, refl))),
        )
      ]

  lost_by : (after : PerType ℕ) (reply : Reply) (batch : PerType (List StampedWrite)) → Answering s0 s1 r0 r1 (Since marks) (Ok reply) → batch ≡ (changed_in reply).0 → after ≡ each 0
      → Settles (parcels_of (in_order batch)) p0 p1 g0 g1 (Ok Lost) → Turned after (Ok true)
  lost_by after reply batch (tries, grew, ((n, is, below), tried)) batch_is zeros (put, received) =
      let entry : ℕ × Record = (n, record { event = Since marks; answer = Ok reply }) in
      let told_put : p1 ≡ p0 ++ parcels_of (in_order (changed_in reply).0) = put ∙ ap (λ (b : PerType (List StampedWrite)). p0 ++ parcels_of (in_order b)) batch_is in
      elim received [
        | inl (none, merged, same) ↦ absurd (apart merged)
        | inr (some, more) ↦ (
          record { marks = marks; told = entry ∷ []; tried = tries; put = parcels_of (in_order (changed_in reply).0); receipts = Lost ∷ []; after = each 0 },
          refl,
          sym zeros,
          is,
          grew,
          told_put,
          more,
          (entry, (refl, refl, tried), refl, refl, inr (inr (subst (λ (b : PerType (List StampedWrite)). parcels_of (in_order b) ≢ []) batch_is some, refl, refl))),
        )
      ]
    where
      apart : Lost ≡ Merged → ⊥
      apart same = absurd cc

  -- a batch that was told, and isn't sent
  left_over : (reply : Reply) (batch : PerType (List StampedWrite)) (e : SendFailure) → Answering s0 s1 r0 r1 (Since marks) (Ok reply) → batch ≡ (changed_in reply).0
      → Settles (parcels_of (in_order batch)) p0 p1 g0 g1 (Err e)
      → (t : Turn) × (t.marks ≡ marks) × (t.after ≡ each 0) × (s1 ≡ s0 ++ t.told) × (r1 ≡ r0 ++ t.tried) × (p1 ≡ p0 ++ t.put) × (g1 ≡ g0 ++ t.receipts) × IsCutOff t
  left_over reply batch e (tries, grew, ((n, is, below), tried)) batch_is (reason, (put, more, begins), same) =
      let entry : ℕ × Record = (n, record { event = Since marks; answer = Ok reply }) in (
        record { marks = marks; told = entry ∷ []; tried = tries; put = put; receipts = []; after = each 0 },
        refl,
        refl,
        is,
        grew,
        more,
        same ∙ sym (append-nil g0),
        ((refl, refl), (entry, (refl, refl, tried), refl, subst (λ (b : PerType (List StampedWrite)). Begins put (parcels_of (in_order b))) batch_is begins)),
      )

  -- rule: marks
  pub turn_merged : (after : PerType ℕ) (reply : Reply) (batch : PerType (List StampedWrite)) (receipt : Receipt) → Answering s0 s1 r0 r1 (Since marks) (Ok reply) → batch ≡ (changed_in reply).0
      → after ≡ (changed_in reply).1 → receipt ≡ Merged → Settles (parcels_of (in_order batch)) p0 p1 g0 g1 (Ok receipt) → Turned after (Ok true)
  turn_merged after reply batch receipt told batch_is after_is is settles =
      merged_by after reply batch told batch_is after_is (subst (λ (x : Receipt). Settles (parcels_of (in_order batch)) p0 p1 g0 g1 (Ok x)) is settles)

  -- rule: marks
  pub turn_lost : (after : PerType ℕ) (reply : Reply) (batch : PerType (List StampedWrite)) (receipt : Receipt) → Answering s0 s1 r0 r1 (Since marks) (Ok reply) → batch ≡ (changed_in reply).0 → after ≡ each 0
      → receipt ≡ Lost → Settles (parcels_of (in_order batch)) p0 p1 g0 g1 (Ok receipt) → Turned after (Ok true)
  turn_lost after reply batch receipt told batch_is zeros is settles =
      lost_by after reply batch told batch_is zeros (subst (λ (x : Receipt). Settles (parcels_of (in_order batch)) p0 p1 g0 g1 (Ok x)) is settles)

  ended_by : (after : PerType ℕ) (reply : Reply) (batch : PerType (List StampedWrite)) (u : SendFailure) → Answering s0 s1 r0 r1 (Since marks) (Ok reply) → batch ≡ (changed_in reply).0 → after ≡ each 0
      → Settles (parcels_of (in_order batch)) p0 p1 g0 g1 (Err u) → Turned after (given_up u)
  ended_by after reply batch unsent.Unlinked told batch_is zeros settles =
      let (t, a, b, c, d, e, f, off) = left_over reply batch unsent.Unlinked told batch_is settles in
      (t, a, b ∙ sym zeros, c, d, e, f, off)
  ended_by after reply batch (unsent.Refused why) told batch_is zeros settles =
      let (t, a, b, c, d, e, f, off) = left_over reply batch (unsent.Refused why) told batch_is settles in
      (t, a, b ∙ sym zeros, c, d, e, f, (given_off t off, inr (inr (something t off, settles.0))))

  -- rule: marks
  pub turn_given_up : (after : PerType ℕ) (reply : Reply) (batch : PerType (List StampedWrite)) (u : SendFailure) (r : Result Bool Refusal) → Answering s0 s1 r0 r1 (Since marks) (Ok reply)
      → batch ≡ (changed_in reply).0 → after ≡ each 0 → Settles (parcels_of (in_order batch)) p0 p1 g0 g1 (Err u) → r ≡ given_up u → Turned after r
  turn_given_up after reply batch u r told batch_is zeros settles is = subst (λ (x : Result Bool Refusal). Turned after x) (sym is) (ended_by after reply batch u told batch_is zeros settles)

-- ---- turns one after another

-- these turns were made, with what they told, put and took
pub record ByTurns (s0 s1 : List (ℕ × Record)) (r0 r1 : List Record) (p0 p1 : List (List ℕ × Bool)) (g0 g1 : List Receipt) (turns : List Turn) (marks : PerType ℕ) : Type 0 where
  pub are : All IsTurn turns
  pub follow : Follows (each 0) turns marks
  pub told : s1 ≡ s0 ++ flat_map (λ t. t.told) turns
  pub tried : r1 ≡ r0 ++ flat_map (λ t. t.tried) turns
  pub put : p1 ≡ p0 ++ flat_map (λ t. t.put) turns
  pub got : g1 ≡ g0 ++ flat_map (λ t. t.receipts) turns

pub telling-start : (s : List (ℕ × Record)) (r : List Record) (p : List (List ℕ × Bool)) (g : List Receipt) (marks : PerType ℕ) → marks ≡ each 0 → (turns : List Turn) × ByTurns s s r r p p g g turns marks
telling-start s r p g marks zeros =
    ([], record { are = All-nil IsTurn; follow = sym zeros; told = sym (append-nil s); tried = sym (append-nil r); put = sym (append-nil p); got = sym (append-nil g) })

follow-snoc : (first : PerType ℕ) (turns : List Turn) (marks after : PerType ℕ) (t : Turn) → Follows first turns marks → t.marks ≡ marks → t.after ≡ after → Follows first (turns ++ t ∷ []) after
follow-snoc first [] marks after t is from to = (from ∙ sym is, to)
follow-snoc first (u ∷ us) marks after t is from to = (is.0, follow-snoc u.after us marks after t is.1 from to)

-- what a turn more added
grown : {X : Type 0} (f : Turn → List X) (turns : List Turn) (t : Turn) (old mid new : List X) → mid ≡ old ++ flat_map f turns → new ≡ mid ++ f t → new ≡ old ++ flat_map f (turns ++ t ∷ [])
grown f turns t old mid new is more =
    more ∙ ap (λ l. l ++ f t) is ∙ append_assoc old (flat_map f turns) (f t) ∙ ap (λ l. old ++ (flat_map f turns ++ l)) (sym (append-nil (f t))) ∙ ap (λ l. old ++ l) (sym (flat_map-append f turns (t ∷ [])))

is_turn : (t : Turn) (r : Result Bool Refusal) → TurnEnds t r → IsTurn t
is_turn t (Ok true) ends = inl ends
is_turn t (Ok false) ends = inr (given_off t ends)
is_turn t (Err e) ends = inr ends.0

module _ (s0 s1 s2 : List (ℕ × Record)) (r0 r1 r2 : List Record) (p0 p1 p2 : List (List ℕ × Bool)) (g0 g1 g2 : List Receipt) (marks after : PerType ℕ) where
  -- these turns were made before
  abbrev pub Made : Type 0
  Made = (turns : List Turn) × ByTurns s0 s1 r0 r1 p0 p1 g0 g1 turns marks

  -- and this one more
  abbrev pub More : Result Bool Refusal → Type 0
  More r = Turned marks s1 s2 r1 r2 p1 p2 g1 g2 after r

  more_by : (turns : List Turn) (r : Result Bool Refusal) (so : ByTurns s0 s1 r0 r1 p0 p1 g0 g1 turns marks) (turn : More r) → ByTurns s0 s2 r0 r2 p0 p2 g0 g2 (turns ++ turn.0 ∷ []) after
  more_by turns r so (t, from, to, told, tried, put, got, ends) = record {
    are = All-push IsTurn turns t so.are (is_turn t r ends);
    follow = follow-snoc (each 0) turns marks after t so.follow from to;
    told = grown (λ u. u.told) turns t s0 s1 s2 so.told told;
    tried = grown (λ u. u.tried) turns t r0 r1 r2 so.tried tried;
    put = grown (λ u. u.put) turns t p0 p1 p2 so.put put;
    got = grown (λ u. u.receipts) turns t g0 g1 g2 so.got got;
  }

  -- it goes on
  pub telling-more : (r : Result Bool Refusal) → Made → More r → (turns : List Turn) × ByTurns s0 s2 r0 r2 p0 p2 g0 g2 turns after
  telling-more r (turns, so) turn = (turns ++ turn.0 ∷ [], more_by turns r so turn)

  -- all of it, where it ends so
  abbrev pub Tells : Result Ended Refusal → Type 0
  Tells q =
      (told : List (ℕ × Record)) × (tried : List Record) × (put : List (List ℕ × Bool)) × (got : List Receipt)
      × (s2 ≡ s0 ++ told) × (r2 ≡ r0 ++ tried) × (p2 ≡ p0 ++ put) × (g2 ≡ g0 ++ got) × HasTold told tried put got q

  all_of : (turns : List Turn) (r : Result Bool Refusal) (q : Result Ended Refusal) (so : ByTurns s0 s1 r0 r1 p0 p1 g0 g1 turns marks) (turn : More r) → IsLastTurn turn.0 q → Tells q
  all_of turns r q so turn last =
      let t = turn.0 in
      let more = more_by turns r so turn in (
        flat_map (λ u. u.told) (turns ++ t ∷ []),
        flat_map (λ u. u.tried) (turns ++ t ∷ []),
        flat_map (λ u. u.put) (turns ++ t ∷ []),
        flat_map (λ u. u.receipts) (turns ++ t ∷ []),
        more.told,
        more.tried,
        more.put,
        more.got,
        (turns, t, after, record { are = more.are; follow = more.follow; told_are = refl; tried_are = refl; put_are = refl; receipts_are = refl }, last),
      )

  pub telling-stopped : Made → More (Ok true) → Tells (Ok ended.Stopped)
  telling-stopped (turns, so) turn = all_of turns (Ok true) (Ok ended.Stopped) so turn turn.7

  pub telling-unlinked : Made → More (Ok false) → Tells (Ok ended.Unlinked)
  telling-unlinked (turns, so) turn = all_of turns (Ok false) (Ok ended.Unlinked) so turn turn.7

  pub telling-failed : (e : Refusal) → Made → More (Err e) → Tells (Err e)
  telling-failed e (turns, so) turn = all_of turns (Err e) (Err e) so turn turn.7
