-- Writes that are cut into parts: each part is the longest beginning within the bounds, and joined they are the writes.
use Rattle.std.proofs.Common.{◌≡◌, ℕ, zero, suc, ◌+◌, ◌-◌, ◌≤◌, ◌<◌, List, [], ◌∷◌, ◌++◌, length, map, take, drop, get_or, Bool, true, false, not, ◌&&◌, nat_lt, cond, All, refl, sym, ap, ◌∙◌, subst, arith, append_assoc, append-nil, length-append, length-drop}
use Rattle.std.specs.List.{sum_by, flat_map}
use Rattle.std.proofs.lemmas.Bool.{le-ltb, lt-ltb, ltb-false}
use Rattle.std.proofs.lemmas.List.{take-append-drop, take-map, drop-map, drop-drop, take_all, length-map, length-take-le}
use Rattle.std.proofs.lemmas.List.Elements.{All-cons, All-head, All-tail, All-nil, All-append}
use Rattle.std.proofs.lemmas.List.Sums.{sum_by-append}
use Rattle.std.proofs.Math.Numerals.{suc-eq-add-one}
use Rattle.xds_resource.specs.PerType.{PerType}
use Rattle.xds_resource.specs.TypedWrites.{TypedWrite}
use Rattle.xds_resource.specs.Writes.{StampedWrite}
use Rattle.xds_resource.proofs.BoolsAndLists.{both_false}
use Rattle.xds_message.specs.Batches.{by_type, IsSound}
use Rattle.xds_message.proofs.BatchLemmas.{map-take-more}
use Rattle.xds_exchange.proofs.Weights.{weight_few}
use Rattle.xds_exchange.specs.OutboxLaws.{AreTheWrites, AreWithin}
use Rattle.xds_exchange.specs.Parts.{weight, max_writes, max_bytes, is_part, parts_behind, parts_of, IsFirstPart}

-- ---- bounds

pub part_bounds : (ws : List TypedWrite) → is_part ws ≡ true → (length ws ≤ max_writes) × (sum_by weight ws ≤ max_bytes)
part_bounds ws e =
    let parts = both_false (nat_lt max_writes (length ws)) (nat_lt max_bytes (sum_by weight ws)) e in
    (ltb-false max_writes (length ws) parts.0, ltb-false max_bytes (sum_by weight ws) parts.1)

pub within_bounds : (ws : List TypedWrite) → length ws ≤ max_writes → sum_by weight ws ≤ max_bytes → is_part ws ≡ true
within_bounds ws few light = rw (le-ltb max_writes (length ws) few, le-ltb max_bytes (sum_by weight ws) light) refl

either : (a b : Bool) → b ≡ true → (not a && not b) ≡ false
either true b e = refl
either false true e = refl
either false false e = absurd cc

pub too_many : (ws : List TypedWrite) → max_writes < length ws → is_part ws ≡ false
too_many ws many = rw (lt-ltb max_writes (length ws) many) refl

pub too_heavy : (ws : List TypedWrite) → max_bytes < sum_by weight ws → is_part ws ≡ false
too_heavy ws heavy = either (nat_lt max_writes (length ws)) (nat_lt max_bytes (sum_by weight ws)) (lt-ltb max_bytes (sum_by weight ws) heavy)

-- a beginning of a part is a part
pub beginning : (p q : List TypedWrite) → is_part (p ++ q) ≡ true → is_part p ≡ true
beginning p q e =
    let bounds = part_bounds (p ++ q) e in
    within_bounds p (omega (arith, bounds.0, length-append p q)) (omega (arith, bounds.1, sum_by-append weight p q))

-- ---- the first part

taken : (part : List TypedWrite) (x : TypedWrite) (xs : List TypedWrite) → is_part (part ++ x ∷ []) ≡ true → parts_behind part (x ∷ xs) ≡ parts_behind (part ++ x ∷ []) xs
taken part x xs e = ap (λ b. cond b (parts_behind (part ++ x ∷ []) xs) (part ∷ parts_behind (x ∷ []) xs)) e

left_for_next : (part : List TypedWrite) (x : TypedWrite) (xs : List TypedWrite) → is_part (part ++ x ∷ []) ≡ false → parts_behind part (x ∷ xs) ≡ part ∷ parts_behind (x ∷ []) xs
left_for_next part x xs e = ap (λ b. cond b (parts_behind (part ++ x ∷ []) xs) (part ∷ parts_behind (x ∷ []) xs)) e

behind_first : (part : List TypedWrite) (n : ℕ) (xs : List TypedWrite) → is_part (part ++ take n xs) ≡ true → (n < length xs → is_part (part ++ take (suc n) xs) ≡ false) → parts_behind part xs ≡ (part ++ take n xs) ∷ parts_of (drop n xs)
behind_first part zero [] within full = ap (λ p. p ∷ []) (sym (append-nil part))
behind_first part (suc n) [] within full = ap (λ p. p ∷ []) (sym (append-nil part))
behind_first part zero (x ∷ xs) within full = left_for_next part x xs (full (omega arith)) ∙ ap (λ p. p ∷ parts_behind (x ∷ []) xs) (sym (append-nil part))
behind_first part (suc n) (x ∷ xs) within full =
    let moved = λ (ys : List TypedWrite). append_assoc part (x ∷ []) ys in
    let one_more = subst (λ ws. is_part ws ≡ true) (sym (moved (take n xs))) within in
    taken part x xs (beginning (part ++ x ∷ []) (take n xs) one_more)
    ∙ behind_first (part ++ x ∷ []) n xs one_more (λ below. subst (λ ws. is_part ws ≡ false) (sym (moved (take (suc n) xs))) (full (omega (arith, below))))
    ∙ ap (λ p. p ∷ parts_of (drop n xs)) (moved (take n xs))

-- the longest beginning within the bounds is the first part
pub first_part : (ws : List TypedWrite) (n : ℕ) → IsFirstPart ws n → 0 < n → parts_of ws ≡ take n ws ∷ parts_of (drop n ws)
first_part [] n h some = absurd (omega (arith, h.there, some))
first_part (x ∷ xs) zero h some = absurd (omega (arith, some))
first_part (x ∷ xs) (suc n) h some = behind_first (x ∷ []) n xs h.within (λ below. subst (λ k. is_part (take k (x ∷ xs)) ≡ false) (sym (suc-eq-add-one (suc n))) (h.full (omega (arith, below))))

one_weight : (x : TypedWrite) → sum_by weight (x ∷ []) ≡ weight x
one_weight x = omega arith

-- a part of writes that are held
abbrev pub IsSoundPart : List TypedWrite → Type 0
IsSoundPart p = (is_part p ≡ true) × All IsSound p

abbrev pub AreParts : List (List TypedWrite) → Type 0
AreParts ps = All IsSoundPart ps

within_by : (b : Bool) (part : List TypedWrite) (ps qs : List (List TypedWrite)) → IsSoundPart part → (b ≡ true → AreParts ps) → AreParts qs → AreParts (cond b ps (part ∷ qs))
within_by true part ps qs h same next = same refl
within_by false part ps qs h same next = All-cons IsSoundPart part qs h next

alone : (x : TypedWrite) → IsSound x → All IsSound (x ∷ [])
alone x h = All-cons IsSound x [] h (All-nil IsSound)

alone_fits : (x : TypedWrite) → IsSound x → IsSoundPart (x ∷ [])
alone_fits x h = (within_bounds (x ∷ []) (omega arith) (omega (arith, one_weight x, weight_few x.0 x.1 h.writable)), alone x h)

within_behind : (part xs : List TypedWrite) → IsSoundPart part → All IsSound xs → AreParts (parts_behind part xs)
within_behind part [] h sound = All-cons IsSoundPart part [] h (All-nil IsSoundPart)
within_behind part (x ∷ xs) h sound =
    let one = All-head IsSound x xs sound in
    let rest = All-tail IsSound x xs sound in
    within_by (is_part (part ++ x ∷ [])) part (parts_behind (part ++ x ∷ []) xs) (parts_behind (x ∷ []) xs) h
    (λ fits. within_behind (part ++ x ∷ []) xs (fits, All-append IsSound part (x ∷ []) h.1 (alone x one)) rest) (within_behind (x ∷ []) xs (alone_fits x one) rest)

pub sound_parts : (ws : List TypedWrite) → All IsSound ws → AreParts (parts_of ws)
sound_parts [] sound = All-nil IsSoundPart
sound_parts (x ∷ xs) sound = within_behind (x ∷ []) xs (alone_fits x (All-head IsSound x xs sound)) (All-tail IsSound x xs sound)

pub parts_within : (ws : List TypedWrite) → AreWithin ws
parts_within ws sound = λ i part below. (sound_parts ws sound i part below).0

-- ---- where the first part ends

-- where the first write alone is too much for what is left, something was taken
not_none : {X : Type 0} (f : X → TypedWrite) (n : ℕ) (xs : List X) (w : ℕ) → w ≤ max_bytes → max_bytes < sum_by weight (map f (take n xs)) + w → 0 < n
not_none f zero xs w one heavy = absurd (omega (arith, one, heavy))
not_none f (suc n) xs w one heavy = omega arith

module _ {X : Type 0} (f : X → TypedWrite) (xs : List X) (n : ℕ) where
  length_is : length (map f xs) ≡ length xs
  length_is = length-map xs f

  sum_is : (m : ℕ) → sum_by weight (take m (map f xs)) ≡ sum_by weight (map f (take m xs))
  sum_is m = ap (sum_by weight) (take-map f m xs)

  part_so_far : n ≤ length xs → n ≤ max_writes → sum_by weight (map f (take n xs)) ≤ max_bytes → is_part (take n (map f xs)) ≡ true
  part_so_far there few light = within_bounds (take n (map f xs)) (omega (arith, few, there, length_is, length-take-le n (map f xs) (omega (arith, there, length_is)))) (omega (arith, light, sum_is n))

  pub all_taken : n ≡ length xs → n ≤ max_writes → sum_by weight (map f (take n xs)) ≤ max_bytes → IsFirstPart (map f xs) n
  all_taken all few light = record {
    there = omega (arith, all, length_is);
    within = part_so_far (omega (arith, all)) few light;
    full = λ below. absurd (omega (arith, below, all, length_is));
    some = λ some. omega (arith, some, all, length_is);
  }

  pub full_of_writes : n < length xs → n ≡ max_writes → sum_by weight (map f (take n xs)) ≤ max_bytes → IsFirstPart (map f xs) n
  full_of_writes below many light = record {
    there = omega (arith, below, length_is);
    within = part_so_far (omega (arith, below)) (omega (arith, many)) light;
    full = λ _. too_many (take (n + 1) (map f xs)) (omega (arith, many, length-take-le (n + 1) (map f xs) (omega (arith, below, length_is))));
    some = λ _. omega (arith, many);
  }

  pub more : (x : X) → n < length xs → x ≡ get_or xs n x → sum_by weight (map f (take (n + 1) xs)) ≡ sum_by weight (map f (take n xs)) + weight (f x)
  more x below is = ap (sum_by weight) (map-take-more f xs n x below is) ∙ sum_by-append weight (map f (take n xs)) (f x ∷ []) ∙ ap (λ k. sum_by weight (map f (take n xs)) + k) (one_weight (f x))

  pub full_of_bytes : (x : X) → n < length xs → n ≤ max_writes → sum_by weight (map f (take n xs)) ≤ max_bytes → x ≡ get_or xs n x → weight (f x) ≤ max_bytes → max_bytes < sum_by weight (map f (take n xs)) + weight (f x) → IsFirstPart (map f xs) n
  full_of_bytes x below few light is one heavy = record {
    there = omega (arith, below, length_is);
    within = part_so_far (omega (arith, below)) few light;
    full = λ _. too_heavy (take (n + 1) (map f xs)) (omega (arith, heavy, sum_is (n + 1), more x below is));
    some = λ _. not_none f n xs (weight (f x)) one heavy;
  }

  -- what is known of the writes of the first part

  pub sound_first : All IsSound (map f (take n xs)) → All IsSound (take n (map f xs))
  sound_first h = subst (All IsSound) (sym (take-map f n xs)) h

  pub sound_more : (x : X) → n < length xs → x ≡ get_or xs n x → All IsSound (map f (take n xs)) → IsSound (f x) → All IsSound (map f (take (n + 1) xs))
  sound_more x below is before one = subst (All IsSound) (sym (map-take-more f xs n x below is)) (All-append IsSound (map f (take n xs)) (f x ∷ []) before (alone (f x) one))

pub next_part_some : (ws left : List TypedWrite) (n : ℕ) (b : PerType (List StampedWrite)) → IsFirstPart ws n → 0 < n → left ≡ drop n ws → b ≡ by_type (take n ws) → (part : List TypedWrite) × (parts_of ws ≡ part ∷ parts_of left) × (part ++ left ≡ ws) × (is_part part ≡ true) × (0 < length part) × (by_type part ≡ b)
next_part_some ws left n b h some rest is = (
  take n ws,
  first_part ws n h some ∙ ap (λ l. take n ws ∷ parts_of l) (sym rest),
  ap (λ l. take n ws ++ l) rest ∙ take-append-drop n ws,
  h.within,
  subst (λ k. 0 < k) (sym (length-take-le n ws h.there)) some,
  sym is,
)

-- ---- all parts

joined_by : (b : Bool) (part xs : List TypedWrite) (x : TypedWrite) (ps qs : List (List TypedWrite)) → flat_map (λ p. p) ps ≡ part ++ x ∷ xs → flat_map (λ p. p) qs ≡ x ∷ xs → flat_map (λ p. p) (cond b ps (part ∷ qs)) ≡ part ++ x ∷ xs
joined_by true part xs x ps qs same next = same
joined_by false part xs x ps qs same next = ap (λ ys. part ++ ys) next

joined_behind : (part xs : List TypedWrite) → flat_map (λ p. p) (parts_behind part xs) ≡ part ++ xs
joined_behind part [] = refl
joined_behind part (x ∷ xs) =
    joined_by (is_part (part ++ x ∷ [])) part xs x (parts_behind (part ++ x ∷ []) xs) (parts_behind (x ∷ []) xs) (joined_behind (part ++ x ∷ []) xs ∙ append_assoc part (x ∷ []) xs) (joined_behind (x ∷ []) xs)

pub parts_joined : (ws : List TypedWrite) → AreTheWrites ws
parts_joined [] = refl
parts_joined (x ∷ xs) = joined_behind (x ∷ []) xs

-- what is left once some more were given
pub left_behind : {X Y : Type 0} (f : X → Y) (given n : ℕ) (xs : List X) → map f (drop (given + n) xs) ≡ drop n (map f (drop given xs))
left_behind f given n xs = ap (map f) (sym (drop-drop n given xs)) ∙ sym (drop-map f n (drop given xs))

pub part_taken : {X Y : Type 0} (f : X → Y) (given n : ℕ) (xs : List X) → map f (take n (drop given xs)) ≡ take n (map f (drop given xs))
part_taken f given n xs = sym (take-map f n (drop given xs))

-- all that is behind some is a beginning as long as that
pub all_behind : {X : Type 0} (given : ℕ) (xs : List X) → take (length xs - given) (drop given xs) ≡ drop given xs
all_behind given xs = take_all (length xs - given) (drop given xs) (omega (arith, length-drop given xs))
