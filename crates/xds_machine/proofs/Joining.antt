-- Replicas that are joined one after another, each to each other.
use Rattle.std.proofs.Common.{◌≡◌, ◌≢◌, ◌<◌, ◌≤◌, ◌+◌, ◌⊎◌, inl, inr, ℕ, zero, suc, List, [], ◌∷◌, ◌++◌, length, Bool, true, false, Some, refl, sym, ap, subst, ◌∙◌, eq-eqb, eqb-true, append_assoc, length-append, append-nil, arith}
use Rattle.std.specs.Prelude.{◌==◌, slice_get, slice_index_or, Contains, All, map, Result, Ok, Err, IsOk, IfOk, OnOk, OnErr, IfErr}
use Rattle.std.specs.Result.{result_and}
use Rattle.std.proofs.lemmas.List.{map-append, length-map, nil_from_length}
use Rattle.std.proofs.lemmas.List.Elements.{All-append, Contains-append_left, Contains-append_right, Contains-append_cases}
use Rattle.std.proofs.lemmas.Option.{slice_get_within, slice_get-get_or, get_or_from_slice_get, same_Some}
use Rattle.std.proofs.Math.Nat.{eq-or-lt_of_le}
use Rattle.xds_resource.specs.declared.refusal.Refusal.{Refusal}
use Rattle.xds_resource.specs.declared.refusal.Refusal.TheVariants.{OutOfMemory}
use Rattle.xds_resource.proofs.BoolsAndLists.{none_in}
use Rattle.xds_machine.specs.declared.wires.Bound.{Bound}
use Rattle.xds_machine.specs.declared.wires.Wires.{Wires}
use Rattle.xds_machine.specs.Wiring.{given, Adds, AllChange, Gains, Joins, IsAlone, Stays, Tells, AreJoined, AreOrdered, IsWired}

-- a pair that comes before this one
abbrev pub IsBefore : ℕ → ℕ → ℕ → ℕ → Type 0
IsBefore i j a b = (a < i) ⊎ ((a ≡ i) × (b < j))

-- what was given is there
is_given : {X : Type 0} (n i : ℕ) (x : X) → n ≡ i → Contains (given (n == i) x) x
is_given n i x same = subst (λ b. Contains (given b x) x) (sym (eq-eqb n i same)) (0, omega arith, refl)

-- and nothing else is
only_given : {X : Type 0} (b : Bool) (x y : X) → Contains (given b x) y → (b ≡ true) × (x ≡ y)
only_given true x y (zero, within, is) = (refl, is)
only_given true x y (suc k, within, is) = absurd (omega (arith, within))
only_given false x y (k, within, is) = absurd (omega (arith, within))

given_one : {X : Type 0} (k i : ℕ) (x : X) → k ≡ i → length (given (k == i) x) ≡ 1
given_one k i x same = ap (λ b. length (given b x)) (eq-eqb k i same)

given_none : {X : Type 0} (b : Bool) (x : X) → (b ≡ true → ⊥) → length (given b x) ≡ 0
given_none true x not = absurd (not refl)
given_none false x not = refl

-- how many ends a replica has to tell by once the pairs before this one are joined
pub record HasTold (i j n a count : ℕ) : Type 0 where
  pub done : a < i → count + 1 ≡ n
  pub below : a ≡ i → j ≤ i → count ≡ j
  pub above : a ≡ i → i < j → count + 1 ≡ j
  pub later : i < a → count ≡ 0

-- and to be told by
pub record HasHeard (i j a count : ℕ) : Type 0 where
  pub low_done : a < i → a < j → count ≡ i
  pub low : a < i → j ≤ a → count + 1 ≡ i
  pub same : a ≡ i → count ≡ i
  pub high_done : i < a → a < j → count ≡ i + 1
  pub high : i < a → j ≤ a → count ≡ i

told_more : (i j n a count more : ℕ) → i ≢ j → (a ≡ i → more ≡ count + 1) → (a ≢ i → more ≡ count) → HasTold i j n a count → HasTold i (j + 1) n a more
told_more i j n a count more apart here there told = record {
  done = λ less. omega (arith, there (λ is. omega (arith, is, less)), told.done less);
  below = λ is within. omega (arith, here is, told.below is (omega (arith, within)));
  above = λ is beyond. elim (eq-or-lt_of_le {n = i} {m = j} (omega (arith, beyond))) [
    | inl equal ↦ absurd (apart equal)
    | inr less ↦ omega (arith, here is, told.above is less)
  ];
  later = λ less. omega (arith, there (λ is. omega (arith, is, less)), told.later less);
}

heard_more : (i j a count more : ℕ) → i ≢ j → (a ≡ j → more ≡ count + 1) → (a ≢ j → more ≡ count) → HasHeard i j a count → HasHeard i (j + 1) a more
heard_more i j a count more apart here there heard = record {
  low_done = λ less within. elim (eq-or-lt_of_le {n = a} {m = j} (omega (arith, within))) [
    | inl is ↦ omega (arith, here is, heard.low less (omega (arith, is)))
    | inr before ↦ omega (arith, there (λ is. omega (arith, is, before)), heard.low_done less before)
  ];
  low = λ less beyond. omega (arith, there (λ is. omega (arith, is, beyond)), heard.low less (omega (arith, beyond)));
  same = λ is. omega (arith, there (λ at. apart (sym is ∙ at)), heard.same is);
  high_done = λ less within. elim (eq-or-lt_of_le {n = a} {m = j} (omega (arith, within))) [
    | inl is ↦ omega (arith, here is, heard.high less (omega (arith, is)))
    | inr before ↦ omega (arith, there (λ is. omega (arith, is, before)), heard.high_done less before)
  ];
  high = λ less beyond. omega (arith, there (λ is. omega (arith, is, beyond)), heard.high less (omega (arith, beyond)));
}

told_none : (i n a count : ℕ) → HasTold i i n a count → HasTold i (i + 1) n a count
told_none i n a count told = record {
  done = told.done;
  below = λ is within. absurd (omega (arith, within));
  above = λ is beyond. ap (λ c. c + 1) (told.below is (omega arith));
  later = told.later;
}

heard_none : (i a count : ℕ) → HasHeard i i a count → HasHeard i (i + 1) a count
heard_none i a count heard = record {
  low_done = λ less within. heard.low_done less less;
  low = λ less beyond. absurd (omega (arith, less, beyond));
  same = heard.same;
  high_done = λ less within. absurd (omega (arith, less, within));
  high = λ less beyond. heard.high less (omega (arith, less));
}

told_row : (i n a count : ℕ) → a < n → HasTold i n n a count → HasTold (i + 1) 0 n a count
told_row i n a count within told = record {
  done = λ less. elim (eq-or-lt_of_le {n = a} {m = i} (omega (arith, less))) [
    | inl is ↦ told.above is (omega (arith, is, within))
    | inr before ↦ told.done before
  ];
  below = λ is low. told.later (omega (arith, is));
  above = λ is beyond. absurd (omega (arith, beyond));
  later = λ less. told.later (omega (arith, less));
}

heard_row : (i n a count : ℕ) → a < n → HasHeard i n a count → HasHeard (i + 1) 0 a count
heard_row i n a count within heard = record {
  low_done = λ less before. absurd (omega (arith, before));
  low = λ less beyond. elim (eq-or-lt_of_le {n = a} {m = i} (omega (arith, less))) [
    | inl is ↦ ap (λ c. c + 1) (heard.same is)
    | inr before ↦ ap (λ c. c + 1) (heard.low_done before within)
  ];
  same = λ is. heard.high_done (omega (arith, is)) within;
  high_done = λ less before. absurd (omega (arith, before));
  high = λ less beyond. heard.high_done (omega (arith, less)) within;
}

told_first : (n a count : ℕ) → count ≡ 0 → HasTold 0 0 n a count
told_first n a count none = record {
  done = λ less. absurd (omega (arith, less));
  below = λ is within. none;
  above = λ is beyond. absurd (omega (arith, beyond));
  later = λ less. none;
}

heard_first : (a count : ℕ) → count ≡ 0 → HasHeard 0 0 a count
heard_first a count none = record {
  low_done = λ less within. absurd (omega (arith, less));
  low = λ less beyond. absurd (omega (arith, less));
  same = λ is. none;
  high_done = λ less within. absurd (omega (arith, within));
  high = λ less beyond. none;
}

module _ {L C S T : Type 0} (linked : S → T → Type 0) where
  -- each of the pairs before this one is joined, once, and each end leads to another replica
  pub record AreJoinedTo (i j : ℕ) (replicas : List (Bound L C S T)) : Type 0 where
    pub each : (a b : ℕ) (x y : Bound L C S T) → a ≢ b → IsBefore i j a b → slice_get replicas a ≡ Some x → slice_get replicas b ≡ Some y → Tells linked x y
    pub told : (a : ℕ) (x : Bound L C S T) (s : S) → slice_get replicas a ≡ Some x → Contains x.sends.items s
        → (b : ℕ) × (y : Bound L C S T) × (t : T) × (a ≢ b) × (slice_get replicas b ≡ Some y) × Contains y.takes.items t × linked s t
    pub heard : (b : ℕ) (y : Bound L C S T) (t : T) → slice_get replicas b ≡ Some y → Contains y.takes.items t
        → (a : ℕ) × (x : Bound L C S T) × (s : S) × (a ≢ b) × (slice_get replicas a ≡ Some x) × Contains x.sends.items s × linked s t
    pub once : (a : ℕ) (x : Bound L C S T) → slice_get replicas a ≡ Some x → HasTold i j (length replicas) a (length x.sends.items) × HasHeard i j a (length x.takes.items)

module _ {L C S T : Type 0} where
  -- what was there of another, if one is there now
  was : (i j : ℕ) (s : S) (t : T) (old new : List (Bound L C S T)) → Joins i j s t old new → (k : ℕ) (c : Bound L C S T) → slice_get new k ≡ Some c
      → (b : Bound L C S T) × (slice_get old k ≡ Some b) × Gains (k == i) (k == j) s t b c
  was i j s t old new joins k c now =
      let within = slice_get_within new k c now in
      let before = slice_get-get_or old k c (omega (arith, within, joins.count)) in
      (slice_index_or old k c, before, joins.each k _ c before now)

  -- what is there now of another, if one was there
  is_now : (i j : ℕ) (s : S) (t : T) (old new : List (Bound L C S T)) → Joins i j s t old new → (k : ℕ) (b : Bound L C S T) → slice_get old k ≡ Some b
      → (c : Bound L C S T) × (slice_get new k ≡ Some c) × Gains (k == i) (k == j) s t b c
  is_now i j s t old new joins k b before =
      let within = slice_get_within old k b before in
      let now = slice_get-get_or new k b (omega (arith, within, joins.count)) in
      (slice_index_or new k b, now, joins.each k b _ before now)

  still_sends : {p q : Bool} {s : S} {t : T} {b c : Bound L C S T} → Gains p q s t b c → (e : S) → Contains b.sends.items e → Contains c.sends.items e
  still_sends {p} {q} {s} {t} {b} {c} gains e has = subst (λ xs. Contains xs e) (sym gains.sends) (Contains-append_left b.sends.items (given p s) e has)

  still_takes : {p q : Bool} {s : S} {t : T} {b c : Bound L C S T} → Gains p q s t b c → (e : T) → Contains b.takes.items e → Contains c.takes.items e
  still_takes {p} {q} {s} {t} {b} {c} gains e has = subst (λ xs. Contains xs e) (sym gains.takes) (Contains-append_left b.takes.items (given q t) e has)

  now_sends : (k i : ℕ) {q : Bool} {s : S} {t : T} {b c : Bound L C S T} → k ≡ i → Gains (k == i) q s t b c → Contains c.sends.items s
  now_sends k i {q} {s} {t} {b} {c} same gains = subst (λ xs. Contains xs s) (sym gains.sends) (Contains-append_right b.sends.items (given (k == i) s) s (is_given k i s same))

  now_takes : (k j : ℕ) {p : Bool} {s : S} {t : T} {b c : Bound L C S T} → k ≡ j → Gains p (k == j) s t b c → Contains c.takes.items t
  now_takes k j {p} {s} {t} {b} {c} same gains = subst (λ xs. Contains xs t) (sym gains.takes) (Contains-append_right b.takes.items (given (k == j) t) t (is_given k j t same))

  alone_at : (replicas : List (Bound L C S T)) → All IsAlone replicas → (k : ℕ) (x : Bound L C S T) → slice_get replicas k ≡ Some x → IsAlone x
  alone_at replicas alone k x here = subst IsAlone (get_or_from_slice_get replicas k x x here) (alone k x (slice_get_within replicas k x here))

module _ {L C S T : Type 0} {linked : S → T → Type 0} where
  still_tells : {p q p' q' : Bool} {s : S} {t : T} {x x' y y' : Bound L C S T} → Gains p q s t x x' → Gains p' q' s t y y' → Tells linked x y → Tells linked x' y'
  still_tells first second (e, f, sends, takes, are) = (e, f, still_sends first e sends, still_takes second f takes, are)

  each_after : (i j : ℕ) (s : S) (t : T) (old new : List (Bound L C S T)) → AreJoinedTo linked i j old → Joins i j s t old new → linked s t
      → (a b : ℕ) (x y : Bound L C S T) → a ≢ b → IsBefore i (j + 1) a b → slice_get new a ≡ Some x → slice_get new b ≡ Some y → Tells linked x y
  each_after i j s t old new joined joins are a b x y apart before here there =
      let one = was i j s t old new joins a x here in
      let other = was i j s t old new joins b y there in
      elim before [
        | inl earlier ↦ still_tells one.2 other.2 (joined.each a b one.0 other.0 apart (inl earlier) one.1 other.1)
        | inr row ↦ elim (eq-or-lt_of_le {n = b} {m = j} (omega (arith, row.1))) [
          | inl last ↦ (s, t, now_sends a i row.0 one.2, now_takes b j last other.2, are)
          | inr less ↦ still_tells one.2 other.2 (joined.each a b one.0 other.0 apart (inr (row.0, less)) one.1 other.1)
        ]
      ]

  told_after : (i j : ℕ) (s : S) (t : T) (old new : List (Bound L C S T)) → i ≢ j → j < length old → AreJoinedTo linked i j old → Joins i j s t old new → linked s t
      → (a : ℕ) (x : Bound L C S T) (e : S) → slice_get new a ≡ Some x → Contains x.sends.items e
      → (b : ℕ) × (y : Bound L C S T) × (f : T) × (a ≢ b) × (slice_get new b ≡ Some y) × Contains y.takes.items f × linked e f
  told_after i j s t old new apart within joined joins are a x e here has =
      let one = was i j s t old new joins a x here in
      elim (Contains-append_cases one.0.sends.items (given (a == i) s) e (subst (λ xs. Contains xs e) one.2.sends has)) [
        | inl before ↦
            let found = joined.told a one.0 e one.1 before in
            let after = is_now i j s t old new joins found.0 found.1 found.4 in
            (found.0, after.0, found.2, found.3, after.1, still_takes after.2 found.2 found.5, found.6)
        | inr given_now ↦
            let is = only_given (a == i) s e given_now in
            let place = eqb-true a i is.0 in
            let after = is_now i j s t old new joins j _ (slice_get-get_or old j one.0 within) in
            (j, after.0, t, (λ same. apart (sym place ∙ same)), after.1, now_takes j j refl after.2, subst (λ v. linked v t) is.1 are)
      ]

  heard_after : (i j : ℕ) (s : S) (t : T) (old new : List (Bound L C S T)) → i ≢ j → i < length old → AreJoinedTo linked i j old → Joins i j s t old new → linked s t
      → (b : ℕ) (y : Bound L C S T) (f : T) → slice_get new b ≡ Some y → Contains y.takes.items f
      → (a : ℕ) × (x : Bound L C S T) × (e : S) × (a ≢ b) × (slice_get new a ≡ Some x) × Contains x.sends.items e × linked e f
  heard_after i j s t old new apart within joined joins are b y f here has =
      let one = was i j s t old new joins b y here in
      elim (Contains-append_cases one.0.takes.items (given (b == j) t) f (subst (λ xs. Contains xs f) one.2.takes has)) [
        | inl before ↦
            let found = joined.heard b one.0 f one.1 before in
            let after = is_now i j s t old new joins found.0 found.1 found.4 in
            (found.0, after.0, found.2, found.3, after.1, still_sends after.2 found.2 found.5, found.6)
        | inr given_now ↦
            let is = only_given (b == j) t f given_now in
            let place = eqb-true b j is.0 in
            let after = is_now i j s t old new joins i _ (slice_get-get_or old i one.0 within) in
            (i, after.0, s, (λ same. apart (same ∙ place)), after.1, now_sends i i refl after.2, subst (λ v. linked s v) is.1 are)
      ]

  once_after : (i j : ℕ) (s : S) (t : T) (old new : List (Bound L C S T)) → i ≢ j → AreJoinedTo linked i j old → Joins i j s t old new
      → (a : ℕ) (x : Bound L C S T) → slice_get new a ≡ Some x → HasTold i (j + 1) (length new) a (length x.sends.items) × HasHeard i (j + 1) a (length x.takes.items)
  once_after i j s t old new apart joined joins a x here =
      let one = was i j s t old new joins a x here in
      let before = joined.once a one.0 one.1 in
      let sends : length x.sends.items ≡ length one.0.sends.items + length (given (a == i) s) = ap length one.2.sends ∙ length-append one.0.sends.items (given (a == i) s) in
      let takes : length x.takes.items ≡ length one.0.takes.items + length (given (a == j) t) = ap length one.2.takes ∙ length-append one.0.takes.items (given (a == j) t) in (
        subst (λ n. HasTold i (j + 1) n a (length x.sends.items)) (sym joins.count)
            (told_more i j (length old) a (length one.0.sends.items) (length x.sends.items) apart (λ is. omega (arith, sends, given_one a i s is)) (λ not. omega (arith, sends, given_none (a == i) s (λ at. not (eqb-true a i at)))) before.0),
        heard_more i j a (length one.0.takes.items) (length x.takes.items) apart (λ is. omega (arith, takes, given_one a j t is)) (λ not. omega (arith, takes, given_none (a == j) t (λ at. not (eqb-true a j at)))) before.1,
      )

  -- one pair more is joined
  pub pair_joined : (i j : ℕ) (s : S) (t : T) (old new : List (Bound L C S T)) → i ≢ j → i < length old → j < length old → AreJoinedTo linked i j old → Joins i j s t old new → linked s t → AreJoinedTo linked i (j + 1) new
  pair_joined i j s t old new apart first second joined joins are = record {
    each = each_after i j s t old new joined joins are;
    told = told_after i j s t old new apart second joined joins are;
    heard = heard_after i j s t old new apart first joined joins are;
    once = once_after i j s t old new apart joined joins;
  }

  -- no replica is joined to itself
  pub none_joined : (i : ℕ) (replicas : List (Bound L C S T)) → AreJoinedTo linked i i replicas → AreJoinedTo linked i (i + 1) replicas
  none_joined i replicas joined = record {
    told = joined.told;
    heard = joined.heard;
    once = λ a x here. (told_none i (length replicas) a (length x.sends.items) (joined.once a x here).0, heard_none i a (length x.takes.items) (joined.once a x here).1);
    each = λ a b x y apart before here there. elim before [
      | inl earlier ↦ joined.each a b x y apart (inl earlier) here there
      | inr row ↦ elim (eq-or-lt_of_le {n = b} {m = i} (omega (arith, row.1))) [
        | inl last ↦ absurd (apart (row.0 ∙ sym last))
        | inr less ↦ joined.each a b x y apart (inr (row.0, less)) here there
      ]
    ];
  }

  -- all pairs of one replica are joined
  pub row_joined : (i n : ℕ) (replicas : List (Bound L C S T)) → n ≡ length replicas → AreJoinedTo linked i n replicas → AreJoinedTo linked (i + 1) 0 replicas
  row_joined i n replicas count joined = record {
    told = joined.told;
    heard = joined.heard;
    once = λ a x here.
        let within : a < n = omega (arith, count, slice_get_within replicas a x here) in
        let so_far = joined.once a x here in
        let told = subst (λ m. HasTold i n m a (length x.sends.items)) (sym count) so_far.0 in (
          subst (λ m. HasTold (i + 1) 0 m a (length x.sends.items)) count (told_row i n a (length x.sends.items) within told),
          heard_row i n a (length x.takes.items) within so_far.1,
        );
    each = λ a b x y apart before here there. elim before [
      | inl earlier ↦ elim (eq-or-lt_of_le {n = a} {m = i} (omega (arith, earlier))) [
        | inl last ↦ joined.each a b x y apart (inr (last, omega (arith, count, slice_get_within replicas b y there))) here there
        | inr less ↦ joined.each a b x y apart (inl less) here there
      ]
      | inr row ↦ absurd (omega (arith, row.1))
    ];
  }

  -- at first no pair is joined
  pub first_joined : (replicas : List (Bound L C S T)) → All IsAlone replicas → AreJoinedTo linked 0 0 replicas
  first_joined replicas alone = record {
    each = λ a b x y apart before here there. elim before [ inl earlier ↦ absurd (omega (arith, earlier)) | inr row ↦ absurd (omega (arith, row.1)) ];
    told = λ a x e here has. absurd (none_in e (subst (λ xs. Contains xs e) (alone_at replicas alone a x here).0 has));
    heard = λ b y f here has. absurd (none_in f (subst (λ xs. Contains xs f) (alone_at replicas alone b y here).1 has));
    once = λ a x here. (told_first (length replicas) a (length x.sends.items) (ap length (alone_at replicas alone a x here).0), heard_first a (length x.takes.items) (ap length (alone_at replicas alone a x here).1));
  }

  -- at last all pairs are joined
  pub all_joined : (n : ℕ) (replicas : List (Bound L C S T)) → n ≡ length replicas → AreJoinedTo linked n 0 replicas → AreJoined linked replicas
  all_joined n replicas count joined = record {
    each = λ i j b c apart here there. joined.each i j b c apart (inl (omega (arith, count, slice_get_within replicas i b here))) here there;
    told = joined.told;
    heard = joined.heard;
    once = λ a x here.
        let within : a < n = omega (arith, count, slice_get_within replicas a x here) in
        let so_far = joined.once a x here in
        (so_far.0.done within, omega (arith, count, so_far.1.low within (omega arith)));
  }

module _ {L C S T : Type 0} where
  pub stay_all : (rs : List (Bound L C S T)) → AllChange (λ _. Stays) rs rs
  stay_all rs = record { count = refl; each = λ k b c here there. let same = same_Some b c (sym here ∙ there) in (ap (λ r. r.sockets) (sym same), ap (λ r. r.changes) (sym same)) }

  -- replicas stay where two are joined
  pub still_stay : (i j : ℕ) (s : S) (t : T) (first old new : List (Bound L C S T)) → AllChange (λ _. Stays) first old → Joins i j s t old new → AllChange (λ _. Stays) first new
  still_stay i j s t first old new stays joins = record {
    count = joins.count ∙ stays.count;
    each = λ k b d here there.
        let one = was i j s t old new joins k d there in
        let before = stays.each k b one.0 here one.1 in
        (one.2.sockets ∙ before.0, one.2.changes ∙ before.1);
  }

  -- what is kept of replicas where two are joined by ends that belong together
  pub kept_by : {E : Type 0} (linked : S → T → Type 0) (i j n : ℕ) (r : Result (S × T) E) (first old new : List (Bound L C S T)) → i ≢ j → i < n → j < n → n ≡ length old
      → AllChange (λ _. Stays) first old → AreJoinedTo linked i j old
      → IsOk r → IfOk r (λ e. linked e.0 e.1) → IfOk r (λ e. Joins i j e.0 e.1 old new)
      → (n ≡ length new) × AllChange (λ _. Stays) first new × AreJoinedTo linked i (j + 1) new
  kept_by linked i j n (Ok e) first old new apart one other count stays joined ok are joins =
      (count ∙ sym joins.count, still_stay i j e.0 e.1 first old new stays joins, pair_joined i j e.0 e.1 old new apart (omega (arith, count, one)) (omega (arith, count, other)) joined joins are)
  kept_by linked i j n (Err e) first old new apart one other count stays joined ok are joins = absurd cc

module _ {L C S T : Type 0} where
  one_alone : (b : Bound L C S T) → IsAlone b → All IsAlone (b ∷ [])
  one_alone b alone zero d within = alone
  one_alone b alone (suc k) d within = absurd (omega (arith, within))

  same_sockets : (old new : List (Bound L C S T)) → AllChange (λ _. Stays) old new → map (λ b. b.sockets) new ≡ map (λ b. b.sockets) old
  same_sockets [] [] stays = refl
  same_sockets [] (y ∷ ys) stays = absurd (omega (arith, stays.count))
  same_sockets (x ∷ xs) [] stays = absurd (omega (arith, stays.count))
  same_sockets (x ∷ xs) (y ∷ ys) stays =
      ap (λ l. l ∷ map (λ b. b.sockets) ys) (stays.each 0 x y refl refl).0
      ∙ ap (λ ls. x.sockets ∷ ls) (same_sockets xs ys (record { count = omega (arith, stays.count); each = λ k. stays.each (suc k) }))

module _ {L I C S T : Type 0} where
  -- a replica that is added is joined to no other
  pub alone_after : {E D : Type 0} (x : L) (channel : Result (I × C) E) (r : Result (Unit {0}) D) (old new : Wires L I C S T) → All IsAlone old.replicas.items
      → OnOk r (IsOk channel) → OnOk r (IfOk channel (λ ends. Adds x ends.0 ends.1 old new)) → OnErr r (new.replicas.items ≡ old.replicas.items) → All IsAlone new.replicas.items
  alone_after x (Ok ends) (Ok u) old new alone ok adds err = subst (All IsAlone) (sym adds.replicas) (All-append IsAlone old.replicas.items (adds.replica ∷ []) alone (one_alone adds.replica (adds.sends, adds.takes)))
  alone_after x (Err e) (Ok u) old new alone ok adds err = absurd cc
  alone_after x channel (Err e) old new alone ok adds err = subst (All IsAlone) (sym err) alone

module _ {L I C S T : Type 0} (ordered : I → C → Type 0) where
  -- one more with its sender
  ordered_more : (senders : List I) (replicas : List (Bound L C S T)) (s : I) (b : Bound L C S T) → AreOrdered ordered senders replicas → ordered s b.changes → AreOrdered ordered (senders ++ s ∷ []) (replicas ++ b ∷ [])
  ordered_more [] [] s b so is = (is, tt)
  ordered_more [] (y ∷ ys) s b so is = absurd so
  ordered_more (x ∷ xs) [] s b so is = absurd so
  ordered_more (x ∷ xs) (y ∷ ys) s b so is = (so.0, ordered_more xs ys s b so.1 is)

  -- and they stay so where replicas get ends
  ordered_still : (senders : List I) (old new : List (Bound L C S T)) → AllChange (λ _. Stays) old new → AreOrdered ordered senders old → AreOrdered ordered senders new
  ordered_still [] [] [] stays so = tt
  ordered_still [] [] (z ∷ zs) stays so = absurd (omega (arith, stays.count))
  ordered_still [] (y ∷ ys) new stays so = absurd so
  ordered_still (x ∷ xs) [] new stays so = absurd so
  ordered_still (x ∷ xs) (y ∷ ys) [] stays so = absurd (omega (arith, stays.count))
  ordered_still (x ∷ xs) (y ∷ ys) (z ∷ zs) stays so =
      (subst (ordered x) (sym (stays.each 0 y z refl refl).1) so.0, ordered_still xs ys zs (record { count = omega (arith, stays.count); each = λ k. stays.each (suc k) }) so.1)

  -- the replicas so far, and the sockets that are left
  abbrev pub IsBegun : List L → List L → Wires L I C S T → Type 0
  IsBegun all rest w = (map (λ b. b.sockets) w.replicas.items ++ rest ≡ all) × (length w.senders.items ≡ length w.replicas.items) × AreOrdered ordered w.senders.items w.replicas.items

  -- and the replicas so far are one more
  pub begun_after : {E D : Type 0} (x : L) (all left rest : List L) → left ≡ x ∷ rest → (channel : Result (I × C) E) (done r both : Result (Unit {0}) D) (old new : Wires L I C S T) → OnOk done (IsBegun all left old)
      → IfOk channel (λ ends. ordered ends.0 ends.1) → OnOk r (IsOk channel) → OnOk r (IfOk channel (λ ends. Adds x ends.0 ends.1 old new)) → both ≡ result_and done r → OnOk both (IsBegun all rest new)
  begun_after x all left rest step (Ok ends) (Ok u) (Ok v) both old new begun pair ok adds is = subst (λ b. OnOk b (IsBegun all rest new)) (sym is) (
    ap (λ rs. map (λ b. b.sockets) rs ++ rest) adds.replicas
        ∙ ap (λ xs. xs ++ rest) (map-append (λ b. b.sockets) old.replicas.items (adds.replica ∷ []) ∙ ap (λ s. map (λ b. b.sockets) old.replicas.items ++ s ∷ []) adds.sockets)
        ∙ append_assoc (map (λ b. b.sockets) old.replicas.items) (x ∷ []) rest ∙ ap (λ xs. map (λ b. b.sockets) old.replicas.items ++ xs) (sym step) ∙ begun.0,
    ap length adds.senders ∙ length-append old.senders.items (ends.0 ∷ []) ∙ ap (λ n. n + 1) begun.1 ∙ sym (length-append old.replicas.items (adds.replica ∷ [])) ∙ sym (ap length adds.replicas),
    subst (λ ss. AreOrdered ordered ss new.replicas.items) (sym adds.senders)
        (subst (AreOrdered ordered (old.senders.items ++ ends.0 ∷ [])) (sym adds.replicas) (ordered_more old.senders.items old.replicas.items ends.0 adds.replica begun.2 (subst (ordered ends.0) (sym adds.changes) pair))),
  )
  begun_after x all left rest step (Err e) (Ok u) (Ok v) both old new begun pair ok adds is = absurd cc
  begun_after x all left rest step channel (Ok u) (Err e) both old new begun pair ok adds is = subst (λ b. OnOk b (IsBegun all rest new)) (sym is) tt
  begun_after x all left rest step channel (Err e) r both old new begun pair ok adds is = subst (λ b. OnOk b (IsBegun all rest new)) (sym is) tt

  -- all replicas, once they are joined
  pub wired_after : {D : Type 0} (linked : S → T → Type 0) (all rest : List L) (done joined both : Result (Unit {0}) D) (kept : Result (Wires L I C S T) D) (old new : Wires L I C S T) → length rest ≡ 0 → OnOk done (IsBegun all rest old)
      → OnOk joined (new.senders ≡ old.senders) → OnOk joined (AllChange (λ _. Stays) old.replicas.items new.replicas.items) → OnOk joined (AreJoined linked new.replicas.items)
      → both ≡ result_and done joined → OnOk both (kept ≡ Ok new) → IfErr both (λ e. kept ≡ Err e) → IfOk kept (IsWired ordered linked all)
  wired_after linked all rest (Ok u) (Ok v) (Ok w) kept old new none begun senders stay are is ok err =
      let sockets = same_sockets old.replicas.items new.replicas.items stay ∙ sym (append-nil (map (λ b. b.sockets) old.replicas.items)) ∙ ap (λ xs. map (λ b. b.sockets) old.replicas.items ++ xs) (sym (nil_from_length rest none)) ∙ begun.0 in
      subst (λ k. IfOk k (IsWired ordered linked all)) (sym ok)
      (record {
        sockets = sockets;
        senders = ap (λ s. length s.items) senders ∙ begun.1 ∙ sym stay.count ∙ sym (length-map new.replicas.items (λ b. b.sockets)) ∙ ap length sockets;
        ordered_by = subst (λ ss. AreOrdered ordered ss new.replicas.items) (sym (ap (λ s. s.items) senders)) (ordered_still old.senders.items old.replicas.items new.replicas.items stay begun.2);
        joined = are;
      })
  wired_after linked all rest (Ok u) (Ok v) (Err w) kept old new none begun senders stay are is ok err = absurd cc
  wired_after linked all rest (Ok u) (Err e) both kept old new none begun senders stay are is ok err =
      subst (λ k. IfOk k (IsWired ordered linked all)) (sym (subst (λ b. IfErr b (λ e. kept ≡ Err e)) is err)) tt
  wired_after linked all rest (Err e) joined both kept old new none begun senders stay are is ok err =
      subst (λ k. IfOk k (IsWired ordered linked all)) (sym (subst (λ b. IfErr b (λ e. kept ≡ Err e)) is err)) tt

-- the first refusal of two is one of theirs
pub still_refused : (done r both : Result (Unit {0}) Refusal) → IfErr done (λ e. e ≡ OutOfMemory) → IfErr r (λ e. e ≡ OutOfMemory) → both ≡ result_and done r → IfErr both (λ e. e ≡ OutOfMemory)
still_refused (Ok u) r both first second is = subst (λ b. IfErr b (λ e. e ≡ OutOfMemory)) (sym is) second
still_refused (Err e) r both first second is = subst (λ b. IfErr b (λ e. e ≡ OutOfMemory)) (sym is) first

-- and what is kept of what was done is refused by it
pub refused_after : {V : Type 0} (done : Result (Unit {0}) Refusal) (kept : Result V Refusal) (v : V) → IfErr done (λ e. e ≡ OutOfMemory) → OnOk done (kept ≡ Ok v) → IfErr done (λ e. kept ≡ Err e)
    → IfErr kept (λ e. e ≡ OutOfMemory)
refused_after (Ok u) kept v memory ok err = subst (λ k. IfErr k (λ e. e ≡ OutOfMemory)) (sym ok) tt
refused_after (Err e) kept v memory ok err = subst (λ k. IfErr k (λ e. e ≡ OutOfMemory)) (sym err) memory
