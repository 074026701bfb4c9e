-- Streams by the lines of a trace: open or not, and of which variant their messages are; and what each kind of change leaves of
-- that.
use Rattle.std.proofs.Common.{◌≡◌, ◌≢◌, ◌⊎◌, inl, inr, ℕ, ◌+◌, ◌<◌, ◌≤◌, List, [], ◌∷◌, ◌++◌, map, reverse, Bool, true, false, ◌&&◌, not, Option, Some, None, Ok, refl, sym, ap, subst, ◌∙◌, arith}
use Rattle.std.specs.Prelude.{if◌then◌else◌, option_map, ⊤}
use Rattle.std.specs.Option.{option_map_or, option_or, unwrap_or}
use Rattle.std.specs.List.{flat_map}
use Rattle.std.specs.Cmp.{nat_cmp_total}
use Rattle.std.specs.FinMap as finmap
use Rattle.std.specs.FinMap.{nat_cmp-IsAntisymmetric}
use Rattle.std.proofs.lemmas.Grind.{reverse_onto}
use Rattle.std.proofs.lemmas.Option.{same_Some}
use Rattle.xds_resource.specs.declared.types.TypeName.{TypeName}
use Rattle.xds_resource.specs.PerType.{PerType, at}
use Rattle.xds_resource.specs.Writes.{StampedWrite}
use Rattle.xds_catalogue.proofs.Lookups.{get-inserted, get-removed}
use Rattle.xds_message.specs.declared.draft.Draft.{Draft}
use Rattle.xds_ledger.specs.declared.variant.VariantName.{VariantName}
use Rattle.xds_ledger.specs.declared.variant.VariantName.TheVariants as variants
use Rattle.xds_ledger.specs.Variants.{is_delta}
use Rattle.xds_ledger.specs.Offers.{Offer}
use Rattle.xds_ledger.specs.declared.outcome.Outcome.{Outcome}
use Rattle.xds_ledger.specs.Sessions.{Session}
use Rattle.xds_core.specs.Stores.{Store, Batch}
use Rattle.xds_core.specs.Streams.{Stream, Message, Sotw, Delta, variant_of, is_foreign, is_same_variant, opening, requested, answered, sessions_for, response_of}
use Rattle.xds_core.specs.Steps.{Core, with_stream}
use Rattle.xds_core.proofs.StepLaws.{done_with}
use Rattle.xds_check.specs.declared.line.Line.{Line}
use Rattle.xds_check.specs.declared.line.Line.TheVariants as lines
use Rattle.xds_check.specs.Answers as answers
use Rattle.xds_check.specs.Streams.{open_at, open_on, delta_at, delta_on, is_same, may_speak, may_follow, AllFollow}
use Rattle.xds_trace.specs.Making as making
use Rattle.xds_trace.specs.Making.{Naming, asking_of, write_line}
use Rattle.xds_trace.proofs.StreamLines.{itself, of_another}
use Rattle.xds_trace.proofs.StreamRequests.{own_request, same_variant}
use Rattle.xds_trace.proofs.StreamPolls.{IsPolled}
use Rattle.xds_trace.proofs.Following.{not_above}

-- an open stream by the lines: it is open, and its messages are of its variant
pub record Speaks (n : ℕ) (s : Stream) (ls : List Line) : Type 0 where
  pub standing : open_on n ls ≡ Some true
  pub delta : delta_on n ls ≡ option_map is_delta s.variant

-- a stream of which there is no line
pub record IsUnopened (n : ℕ) (ls : List Line) : Type 0 where
  pub standing : open_on n ls ≡ None
  pub delta : delta_on n ls ≡ None

pub record Orders (c : Core) (ls : List Line) : Type 0 where
  pub speaks : (n : ℕ) (s : Stream) → finmap.get c.streams n ≡ Some s → Speaks n s ls
  pub counted : (n : ℕ) (s : Stream) → finmap.get c.streams n ≡ Some s → n ≤ c.opened
  pub unopened : (n : ℕ) → c.opened < n → IsUnopened n ls

-- a line that neither opens a stream nor closes it, nor is a message on it
pub record IsMute (n : ℕ) (l : Line) : Type 0 where
  pub standing : open_at n l ≡ None
  pub delta : delta_at n l ≡ None

speaks_on : (n : ℕ) (l : Line) (ls : List Line) (s : Stream) → IsMute n l → Speaks n s ls → Speaks n s (l ∷ ls)
speaks_on n l ls s mute speaks = record { standing = ap (λ o. option_or o (open_on n ls)) mute.standing ∙ speaks.standing; delta = ap (λ o. option_or o (delta_on n ls)) mute.delta ∙ speaks.delta }

unopened_on : (n : ℕ) (l : Line) (ls : List Line) → IsMute n l → IsUnopened n ls → IsUnopened n (l ∷ ls)
unopened_on n l ls mute new = record { standing = ap (λ o. option_or o (open_on n ls)) mute.standing ∙ new.standing; delta = ap (λ o. option_or o (delta_on n ls)) mute.delta ∙ new.delta }

mute_write : (n : ℕ) (t : TypeName) (w : StampedWrite) → IsMute n (write_line t w)
mute_write n t w = record { standing = refl; delta = refl }

pub mute_idle : (n r : ℕ) (t : TypeName) → IsMute n (lines.Idle r t)
mute_idle n r t = record { standing = refl; delta = refl }

mute_open : (n r : ℕ) → r ≢ n → IsMute n (lines.Open r)
mute_open n r other = record { standing = ap (λ b. if b then Some true else None) (of_another r n other); delta = refl }

mute_close : (n r : ℕ) → r ≢ n → IsMute n (lines.Close r)
mute_close n r other = record { standing = ap (λ b. if b then Some false else None) (of_another r n other); delta = refl }

pub mute_request : (n r : ℕ) (m : Message) → r ≢ n → IsMute n (lines.Request r (asking_of m))
mute_request n r m other = record { standing = refl; delta = ap (λ b. if b then Some (is_delta (answers.variant_of (asking_of m))) else None) (of_another r n other) }

pub mute_response : (n r : ℕ) (a : answers.Answer) → r ≢ n → IsMute n (lines.Response r a)
mute_response n r a other = record { standing = refl; delta = ap (λ b. if b then Some (is_delta a.variant) else None) (of_another r n other) }

same_as_itself : (b : Bool) → is_same b b ≡ true
same_as_itself true = refl
same_as_itself false = refl

variant_is : (m : Message) → answers.variant_of (asking_of m) ≡ variant_of m
variant_is (Sotw m) = refl
variant_is (Delta m) = refl

-- rule: first-variant
-- a message on an open stream of its variant may come
may_come : (n : ℕ) (s : Stream) (ls : List Line) (v : VariantName) → Speaks n s ls → (s.variant ≡ None) ⊎ (s.variant ≡ Some v) → may_speak n (is_delta v) ls ≡ true
may_come n s ls v speaks which =
    (λ i. unwrap_or (speaks.standing i) false && option_map_or (is_same (is_delta v)) (speaks.delta i) true)
    ∙ elim which [
      | inl none ↦ ap (λ o. option_map_or (is_same (is_delta v)) (option_map is_delta o) true) none
      | inr some ↦ ap (λ o. option_map_or (is_same (is_delta v)) (option_map is_delta o) true) some ∙ same_as_itself (is_delta v)
    ]

module _ (c : Core) (ls : List Line) (orders : Orders c ls) where
  -- a stream that changed, with a line of its own
  pub stream_ordered : (n : ℕ) (s left : Stream) (l : Line) → finmap.get c.streams n ≡ Some s → Speaks n left (l ∷ ls) → ((k : ℕ) → n ≢ k → IsMute k l) → Orders (with_stream c n left) (l ∷ ls)
  stream_ordered n s left l has speaks mute = record {
    speaks = λ k x there.
        elim (get-inserted nat_cmp_total nat_cmp-IsAntisymmetric c.streams n left k) [
          | inl same ↦ subst (λ z. Speaks k z (l ∷ ls)) (same_Some left x (sym same.1 ∙ there)) (subst (λ z. Speaks z left (l ∷ ls)) same.0 speaks)
          | inr other ↦ speaks_on k l ls x (mute k other.0) (orders.speaks k x (sym other.1 ∙ there))
        ];
    counted = λ k x there.
        elim (get-inserted nat_cmp_total nat_cmp-IsAntisymmetric c.streams n left k) [
          | inl same ↦ subst (λ z. z ≤ c.opened) same.0 (orders.counted n s has)
          | inr other ↦ orders.counted k x (sym other.1 ∙ there)
        ];
    unopened = λ k above. unopened_on k l ls (mute k (not_above n k c.opened (orders.counted n s has) above)) (orders.unopened k above);
  }

  -- a stream that was put back as it was
  pub stream_back : (n : ℕ) (s left : Stream) → finmap.get c.streams n ≡ Some s → left ≡ s → Orders (with_stream c n left) ls
  stream_back n s left has is = record {
    speaks = λ k x there.
        elim (get-inserted nat_cmp_total nat_cmp-IsAntisymmetric c.streams n left k) [
          | inl same ↦ orders.speaks k x (ap (finmap.get c.streams) (sym same.0) ∙ has ∙ ap Some (sym is) ∙ sym same.1 ∙ there)
          | inr other ↦ orders.speaks k x (sym other.1 ∙ there)
        ];
    counted = λ k x there.
        elim (get-inserted nat_cmp_total nat_cmp-IsAntisymmetric c.streams n left k) [
          | inl same ↦ subst (λ z. z ≤ c.opened) same.0 (orders.counted n s has)
          | inr other ↦ orders.counted k x (sym other.1 ∙ there)
        ];
    unopened = orders.unopened;
  }

  pub line_ordered : (l : Line) → ((k : ℕ) → IsMute k l) → Orders c (l ∷ ls)
  line_ordered l mute = record {
    speaks = λ k x there. speaks_on k l ls x (mute k) (orders.speaks k x there);
    counted = orders.counted;
    unopened = λ k above. unopened_on k l ls (mute k) (orders.unopened k above);
  }

  pub open_ordered : Orders (record c { opened = c.opened + 1; streams = finmap.insert c.streams (c.opened + 1) opening }) (lines.Open (c.opened + 1) ∷ ls)
  open_ordered = record {
    speaks = λ k x there.
        elim (get-inserted nat_cmp_total nat_cmp-IsAntisymmetric c.streams (c.opened + 1) opening k) [
          | inl same ↦ subst (λ z. Speaks k z (lines.Open (c.opened + 1) ∷ ls)) (same_Some opening x (sym same.1 ∙ there)) (subst (λ z. Speaks z opening (lines.Open (c.opened + 1) ∷ ls)) same.0 first)
          | inr other ↦ speaks_on k (lines.Open (c.opened + 1)) ls x (mute_open k (c.opened + 1) other.0) (orders.speaks k x (sym other.1 ∙ there))
        ];
    counted = λ k x there.
        elim (get-inserted nat_cmp_total nat_cmp-IsAntisymmetric c.streams (c.opened + 1) opening k) [
          | inl same ↦ last k same.0
          | inr other ↦ before k (orders.counted k x (sym other.1 ∙ there))
        ];
    unopened = λ k above. unopened_on k (lines.Open (c.opened + 1)) ls (mute_open k (c.opened + 1) (apart k above)) (orders.unopened k (still_above k above));
  }
    where
      first : Speaks (c.opened + 1) opening (lines.Open (c.opened + 1) ∷ ls)
      first = record {
        standing = ap (λ b. option_or (if b then Some true else None) (open_on (c.opened + 1) ls)) (itself (c.opened + 1));
        delta = (orders.unopened (c.opened + 1) (omega arith)).delta;
      }

      last : (k : ℕ) → c.opened + 1 ≡ k → k ≤ c.opened + 1
      last k same = omega (arith, same)

      before : (k : ℕ) → k ≤ c.opened → k ≤ c.opened + 1
      before k below = omega (arith, below)

      apart : (k : ℕ) → c.opened + 1 < k → c.opened + 1 ≢ k
      apart k above same = omega (arith, above, same)

      still_above : (k : ℕ) → c.opened + 1 < k → c.opened < k
      still_above k above = omega (arith, above)

  pub close_ordered : (n : ℕ) (s : Stream) → finmap.get c.streams n ≡ Some s → Orders (record c { streams = finmap.remove c.streams n }) (lines.Close n ∷ ls)
  close_ordered n s has = record {
    speaks = λ k x there. let old = was k x there in speaks_on k (lines.Close n) ls x (mute_close k n old.0) (orders.speaks k x old.1);
    counted = λ k x there. orders.counted k x (was k x there).1;
    unopened = λ k above. unopened_on k (lines.Close n) ls (mute_close k n (not_above n k c.opened (orders.counted n s has) above)) (orders.unopened k above);
  }
    where
      differ : {x : Stream} → None ≡ Some x → ⊥
      differ e = cc

      was : (k : ℕ) (x : Stream) → finmap.get (finmap.remove c.streams n) k ≡ Some x → (n ≢ k) × (finmap.get c.streams k ≡ Some x)
      was k x there =
          elim (get-removed nat_cmp_total nat_cmp-IsAntisymmetric c.streams n k) [
            | inl gone ↦ absurd (differ (sym gone.1 ∙ there))
            | inr other ↦ (other.0, sym other.1 ∙ there)
          ]

-- ---- messages

-- rule: first-variant
pub request_speaks : (n : ℕ) (s : Stream) (m : Message) (p : Outcome × Stream) (ls : List Line) → requested s m ≡ Ok p → Speaks n s ls
    → Speaks n p.1 (lines.Request n (asking_of m) ∷ ls) × (may_follow ls (lines.Request n (asking_of m)) ≡ true)
request_speaks n s m p ls is speaks =
    let own = own_request (is_foreign s m) _ p is in
    let made = done_with (λ (q : Outcome × PerType Session). (q.0, record { variant = Some (variant_of m); count = s.count; sessions = q.1 })) (answered (sessions_for s m) m) p own.1 in
    let variant : p.1.variant ≡ Some (variant_of m) = ap (λ (x : Outcome × Stream). x.1.variant) made.2 in (
      record {
        standing = speaks.standing;
        delta = (λ i. option_or (if itself n i then Some (is_delta (variant_is m i)) else None) (delta_on n ls)) ∙ ap (option_map is_delta) (sym variant);
      },
      ap (λ v. may_speak n (is_delta v) ls) (variant_is m) ∙ may_come n s ls (variant_of m) speaks (by_variant s.variant refl own.0),
    )
  where
    by_variant : (o : Option VariantName) → s.variant ≡ o → is_foreign s m ≡ false → (s.variant ≡ None) ⊎ (s.variant ≡ Some (variant_of m))
    by_variant None variant own = inl variant
    by_variant (Some v) variant own = inr (variant ∙ ap Some (same_variant v (variant_of m) (ap (λ x. option_map_or (λ w. not (is_same_variant w (variant_of m))) x false) (sym variant) ∙ own)))

response_variant : (named : Naming) (replica : ℕ) (store : Store) (ss : PerType Session) (t : TypeName) (o : Offer) (number : ℕ) (v : VariantName) → (making.answer_of named (response_of replica store ss t o number v)).variant ≡ v
response_variant named replica store ss t o number variants.StateOfTheWorld = refl
response_variant named replica store ss t o number variants.Delta = refl

-- rule: first-variant
pub response_speaks : (named : Naming) (n : ℕ) (replica : ℕ) (store : Store) (s : Stream) (d : Draft) (left : Stream) (ls : List Line) → IsPolled replica store s d left → Speaks n s ls
    → Speaks n left (lines.Response n (making.answer_of named d) ∷ ls) × (may_follow ls (lines.Response n (making.answer_of named d)) ≡ true)
response_speaks named n replica store s d left ls polled speaks =
    let of : (making.answer_of named d).variant ≡ polled.variant =
    ap (λ x. (making.answer_of named x).variant) polled.draft_is ∙ response_variant named replica store s.sessions polled.kind polled.this (s.count + 1) polled.variant in
    let kept : left.variant ≡ s.variant = ap (λ (x : Stream). x.variant) polled.after_is in (
      record {
        standing = speaks.standing;
        delta = (λ i. option_or (if itself n i then Some (is_delta (of i)) else None) (delta_on n ls)) ∙ ap (option_map is_delta) (sym (kept ∙ polled.spoken));
      },
      ap (λ v. may_speak n (is_delta v) ls) of ∙ may_come n s ls polled.variant speaks (inr polled.spoken),
    )

-- ---- lines of writes

pub record IsFree (l : Line) : Type 0 where
  pub mute : (n : ℕ) → IsMute n l
  pub follows : (ls : List Line) → may_follow ls l ≡ true

abbrev pub AreFree : List Line → Type 0
AreFree [] = ⊤
AreFree (l ∷ ls) = IsFree l × AreFree ls

free_append : (xs ys : List Line) → AreFree xs → AreFree ys → AreFree (xs ++ ys)
free_append [] ys left right = right
free_append (x ∷ xs) ys left right = (left.0, free_append xs ys left.1 right)

pub free_reverse : (xs : List Line) → AreFree xs → AreFree (reverse xs)
free_reverse [] all = tt
free_reverse (x ∷ xs) all = subst AreFree (sym (reverse_onto xs x [])) (free_append (reverse xs) (x ∷ []) (free_reverse xs all.1) (all.0, tt))

free_writes : (t : TypeName) (ws : List StampedWrite) → AreFree (map (write_line t) ws)
free_writes t [] = tt
free_writes t (w ∷ ws) = (record { mute = λ n. mute_write n t w; follows = λ ls. refl }, free_writes t ws)

pub free_flat : (b : Batch) (ts : List TypeName) → AreFree (flat_map (λ t. map (write_line t) (at b t)) ts)
free_flat b [] = tt
free_flat b (t ∷ ts) = free_append (map (write_line t) (at b t)) (flat_map (λ u. map (write_line u) (at b u)) ts) (free_writes t (at b t)) (free_flat b ts)

speaks_free : (n : ℕ) (s : Stream) (added ls : List Line) → AreFree added → Speaks n s ls → Speaks n s (added ++ ls)
speaks_free n s [] ls all speaks = speaks
speaks_free n s (l ∷ added) ls all speaks = speaks_on n l (added ++ ls) s (all.0.mute n) (speaks_free n s added ls all.1 speaks)

unopened_free : (n : ℕ) (added ls : List Line) → AreFree added → IsUnopened n ls → IsUnopened n (added ++ ls)
unopened_free n [] ls all new = new
unopened_free n (l ∷ added) ls all new = unopened_on n l (added ++ ls) (all.0.mute n) (unopened_free n added ls all.1 new)

pub follow_free : (added ls : List Line) → AreFree added → AllFollow ls → AllFollow (added ++ ls)
follow_free [] ls all follow = follow
follow_free (l ∷ added) ls all follow = (all.0.follows (added ++ ls), follow_free added ls all.1 follow)

pub writes_ordered : (c left : Core) (ls added : List Line) → left.streams ≡ c.streams → left.opened ≡ c.opened → AreFree added → Orders c ls → Orders left (added ++ ls)
writes_ordered c left ls added streams opened free orders = record {
  speaks = λ n s there. speaks_free n s added ls free (orders.speaks n s (ap (λ m. finmap.get m n) (sym streams) ∙ there));
  counted = λ n s there. subst (λ z. n ≤ z) (sym opened) (orders.counted n s (ap (λ m. finmap.get m n) (sym streams) ∙ there));
  unopened = λ n above. unopened_free n added ls free (orders.unopened n (subst (λ z. z < n) opened above));
}
