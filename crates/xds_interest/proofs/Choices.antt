-- Facts on `Bool` and `Option`, case by case.
use Rattle.std.proofs.Common.{◌≡◌, Bool, true, false, ◌&&◌, ◌||◌, not, if◌then◌else◌, Option, Some, None, unwrap_or, refl, sym, ap, ◌∙◌}
use Rattle.std.specs.Option.{option_or}
use Rattle.std.proofs.lemmas.Bool.{or_right, or_parts, true≢false}
use Rattle.std.proofs.Math.Bool.{and-false}
use Rattle.xds_interest.specs.Touched.{exactly_one}

-- a fact that follows from another adds nothing to it
pub and_implied : (p q : Bool) → (p ≡ true → q ≡ true) → (p && q) ≡ p
and_implied true q gives = gives refl
and_implied false q gives = refl

pub and_first : (p q : Bool) → (p && q) ≡ true → p ≡ true
and_first true q h = refl
and_first false q h = h

-- c: a complete type; s: the list has the star; n: it has the name; b: the name is the star's text
pub or_kept : (c s n b : Bool) → ((c && b) ≡ true → n ≡ s) → ((c && s) || (not (c && b) && n)) ≡ (n || (c && s))
or_kept true true n true same = sym (or_right n true refl)
or_kept true true n false same = sym (or_right n true refl)
or_kept true false n true same = sym (ap (λ m. m || false) (same refl))
or_kept true false true false same = refl
or_kept true false false false same = refl
or_kept false s true b same = refl
or_kept false s false b same = refl

pub exactly_one_of_same : (b : Bool) → exactly_one b b ≡ false
exactly_one_of_same true = refl
exactly_one_of_same false = refl

pub exactly_one-false : (a b : Bool) → exactly_one a b ≡ false → a ≡ b
exactly_one-false true true h = refl
exactly_one-false true false h = absurd (true≢false h)
exactly_one-false false true h = absurd (true≢false h)
exactly_one-false false false h = refl

pub neither_one : (a b c d : Bool) → (exactly_one a b || exactly_one c d) ≡ false → (a || c) ≡ (b || d)
neither_one a b c d h = let parts : (exactly_one a b ≡ false) × (exactly_one c d ≡ false) = or_parts _ _ h in (λ i. exactly_one-false a b parts.0 i || exactly_one-false c d parts.1 i)

pub option_or_assoc : {A : Type 0} (a b c : Option A) → option_or (option_or a b) c ≡ option_or a (option_or b c)
option_or_assoc None b c = refl
option_or_assoc (Some x) b c = refl

-- the last word is that of s and u, unless neither says anything
pub last_word : (s u d : Bool) (o : Option Bool)
    → unwrap_or (option_or (if s then Some true else if u then Some false else None) o) d ≡ (if s then true else if u then false else unwrap_or o d)
last_word true u d o = refl
last_word false true d o = refl
last_word false false d o = refl

-- what the last word subscribes was subscribed now (s) or somewhere else (e)
pub word_was_said : (o : Option Bool) (s u e : Bool) → (unwrap_or o false ≡ true → e ≡ true)
    → unwrap_or (option_or o (if s then Some true else if u then Some false else None)) false ≡ true → (s || e) ≡ true
word_was_said None true u e before h = refl
word_was_said None false true e before h = absurd (true≢false (sym h))
word_was_said None false false e before h = absurd (true≢false (sym h))
word_was_said (Some b) s u e before h = or_right s e (before h)

-- what is not mentioned keeps its word
pub unmentioned : (s u y : Bool) → (s || u) ≡ false → (if s then true else if u then false else y) ≡ y
unmentioned true u y h = absurd (true≢false h)
unmentioned false true y h = absurd (true≢false h)
unmentioned false false y h = refl

pub unmentioned_star : (c s u x y : Bool) → x ≡ (if s then true else if u then false else y) → (c && (s || u)) ≡ false → (c && x) ≡ (c && y)
unmentioned_star true s u x y is h = is ∙ unmentioned s u y h
unmentioned_star false s u x y is h = refl

pub and-or : (c a b : Bool) → (c && (a || b)) ≡ ((c && a) || (c && b))
and-or true a b = refl
and-or false a b = refl

pub and_second : (p q : Bool) → (p && q) ≡ true → q ≡ true
and_second true q h = h
and_second false q h = absurd (true≢false (sym h))

-- a name that isn't the star's text (p), and was subscribed now (s), unsubscribed now (u), or subscribed before (w)
pub word_now : (p s u w : Bool) → ((not p && s) || (not u && (w && not p))) ≡ ((if s then true else if u then false else w) && not p)
word_now true s u w = ap (λ b. not u && b) (and-false w) ∙ and-false (not u) ∙ sym (and-false _)
word_now false true u w = refl
word_now false false true w = refl
word_now false false false w = refl

-- a star that only a complete type (c) has, asked twice
pub complete_twice : (c s u w : Bool) → (c && (if s then true else if u then false else (c && w))) ≡ (c && (if s then true else if u then false else w))
complete_twice true s u w = refl
complete_twice false s u w = refl

pub exactly_one-swapped : (a b : Bool) → ((a && not b) || (b && not a)) ≡ exactly_one a b
exactly_one-swapped true true = refl
exactly_one-swapped true false = refl
exactly_one-swapped false true = refl
exactly_one-swapped false false = refl

-- the star (w) of what only a complete type (c) has, where the request doesn't mention it
pub kept_star : (c s u w : Bool) → (c ≡ false → w ≡ false) → (c && (s || u)) ≡ false → (c && (if s then true else if u then false else w)) ≡ w
kept_star true s u w allowed h = unmentioned s u w h
kept_star false s u w allowed h = sym (allowed refl)

-- a name that is neither subscribed (s) nor unsubscribed (u) stays (w)
pub kept_name : (p s u w : Bool) → (s || u) ≡ false → ((p && s) || (not u && w)) ≡ w
kept_name p true u w h = absurd (true≢false h)
kept_name p false true w h = absurd (true≢false h)
kept_name p false false w h = ap (λ b. b || w) (and-false p)
