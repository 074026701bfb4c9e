-- How far the pieces of a text were written, and how long they are.
use Rattle.std.proofs.Common.{◌≡◌, ◌<◌, ◌+◌, arith, length-append, ℕ, List, [], ◌∷◌, ◌++◌, Bool, true, false, map, length, Option, refl, ap, sym, ◌∙◌, subst, append_assoc, append-nil}
use Rattle.std.specs.Io.KnownBytes.{Appends}
use Rattle.xds_frames.specs.Devices.{Device, WrotePart}
use Rattle.xds_frames.specs.Gathering.{Passes}
use Rattle.xds_frames.proofs.Gatherings.{of_calls, part_of_more, part_behind, passes_none, passes_more, passes_whole}
use Rattle.xds_message.specs.Joined.{with_commas, behind_commas}
use Rattle.xds_message.specs.Pieces.{comma_before}

-- some texts came through, and the rest is left
pub record ArePut (d : Device) (held left rest all : List ℕ) : Type 0 where
  pub bytes : List ℕ
  pub passes : Passes d held bytes left
  pub all_is : bytes ++ rest ≡ all

pub put_none : (b : Option (List ℕ)) (f : ℕ) (held all : List ℕ) → ArePut (of_calls b b f f) held held all all
put_none b f held all = record { bytes = []; passes = passes_none b f held [] held (sym (append-nil held)); all_is = refl }

-- ---- stored texts with commas between them

module _ {A : Type 0} (text : A → List ℕ) where
  -- the text of what is left, behind another or as the first
  abbrev pub rest_behind : Bool → List A → List ℕ
  rest_behind false items = with_commas (map text items)
  rest_behind true items = behind_commas (map text items)

  rest_step : (later : Bool) (item : A) (items : List A) → rest_behind later (item ∷ items) ≡ (comma_before later ++ text item) ++ rest_behind true items
  rest_step false item items = refl
  rest_step true item items = refl

  nothing_behind : (later : Bool) → rest_behind later [] ≡ []
  nothing_behind false = refl
  nothing_behind true = refl

  pub put_more : (b m a : Option (List ℕ)) (f g h : ℕ) (held middle left all : List ℕ) (later : Bool) (item : A) (items these : List A) → these ≡ item ∷ items
      → ArePut (of_calls b m f g) held middle (rest_behind later these) all → Passes (of_calls m a g h) middle ((comma_before later ++ text item)) left
      → ArePut (of_calls b a f h) held left (rest_behind true items) all
  put_more b m a f g h held middle left all later item items these is p q = record {
    bytes = p.bytes ++ (comma_before later ++ text item);
    passes = passes_more b m a f g h held p.bytes middle ((comma_before later ++ text item)) left p.passes q;
    all_is =
        append_assoc p.bytes ((comma_before later ++ text item)) (rest_behind true items)
        ∙ ap (λ (l : List ℕ). p.bytes ++ l) (sym (rest_step later item items) ∙ ap (rest_behind later) (sym is))
        ∙ p.all_is;
  }

  pub put_part : (b m a : Option (List ℕ)) (f g h : ℕ) (held middle all : List ℕ) (later : Bool) (item : A) (items these : List A) → these ≡ item ∷ items
      → ArePut (of_calls b m f g) held middle (rest_behind later these) all → WrotePart (of_calls m a g h) (middle ++ (comma_before later ++ text item))
      → WrotePart (of_calls b a f h) (held ++ all)
  put_part b m a f g h held middle all later item items these is p part =
      let whole : (p.bytes ++ (comma_before later ++ text item)) ++ rest_behind true items ≡ all =
      append_assoc p.bytes ((comma_before later ++ text item)) (rest_behind true items)
      ∙ ap (λ (l : List ℕ). p.bytes ++ l) (sym (rest_step later item items) ∙ ap (rest_behind later) (sym is))
      ∙ p.all_is in
      let before = part_behind b m a f g h held p.bytes middle ((comma_before later ++ text item)) p.passes part in
      let longer = part_of_more (of_calls b a f h) (held ++ (p.bytes ++ (comma_before later ++ text item))) (rest_behind true items) before in
      subst (WrotePart (of_calls b a f h)) (append_assoc held (p.bytes ++ (comma_before later ++ text item)) (rest_behind true items) ∙ ap (λ (l : List ℕ). held ++ l) whole) longer

  pub put_all : (d : Device) (held left all : List ℕ) (later : Bool) (these : List A) → these ≡ [] → ArePut d held left (rest_behind later these) all → Passes d held all left
  put_all d held left all later these none p =
      subst (λ (bytes : List ℕ). Passes d held bytes left) (sym (append-nil p.bytes) ∙ ap (λ (l : List ℕ). p.bytes ++ l) (sym (ap (rest_behind later) none ∙ nothing_behind later)) ∙ p.all_is) p.passes

  -- a text is joined, and the comma before it
  pub text_more : (later : Bool) (item : A) (items these : List A) (out new all : List ℕ) → these ≡ item ∷ items → out ++ rest_behind later these ≡ all
      → new ≡ out ++ (comma_before later ++ text item) → new ++ rest_behind true items ≡ all
  text_more later item items these out new all is joined grown =
      ap (λ (l : List ℕ). l ++ rest_behind true items) grown
      ∙ append_assoc out (comma_before later ++ text item) (rest_behind true items)
      ∙ ap (λ (l : List ℕ). out ++ l) (sym (rest_step later item items) ∙ ap (rest_behind later) (sym is))
      ∙ joined

  -- none is left to be joined
  pub text_all : (later : Bool) (these : List A) (out all : List ℕ) → these ≡ [] → out ++ rest_behind later these ≡ all → out ≡ all
  text_all later these out all none joined = sym (append-nil out) ∙ ap (λ (l : List ℕ). out ++ l) (sym (ap (rest_behind later) none ∙ nothing_behind later)) ∙ joined

  -- a text is counted, and the comma before it
  pub count_more : (later : Bool) (item : A) (items these : List A) (all more whole : ℕ) → these ≡ item ∷ items → all + length (rest_behind later these) ≡ whole
      → more ≡ all + length (comma_before later ++ text item) → more + length (rest_behind true items) ≡ whole
  count_more later item items these all more whole is counted added =
      omega (arith, counted, added, ap (λ (l : List ℕ). length l) (ap (rest_behind later) is ∙ rest_step later item items), length-append (comma_before later ++ text item) (rest_behind true items))

  -- with them it is too much
  pub count_beyond : (later : Bool) (item : A) (items these : List A) (all whole limit : ℕ) → these ≡ item ∷ items → all + length (rest_behind later these) ≡ whole
      → limit < all + length (comma_before later ++ text item) → limit < whole
  count_beyond later item items these all whole limit is counted beyond =
      omega (arith, counted, beyond, ap (λ (l : List ℕ). length l) (ap (rest_behind later) is ∙ rest_step later item items), length-append (comma_before later ++ text item) (rest_behind true items))

  -- nothing is left to be counted
  pub count_all : (later : Bool) (these : List A) (all whole : ℕ) → these ≡ [] → all + length (rest_behind later these) ≡ whole → all ≡ whole
  count_all later these all whole none counted = omega (arith, counted, ap (λ (l : List ℕ). length l) (ap (rest_behind later) none ∙ nothing_behind later))

-- a text in three pieces, behind a comma or none
pub pieces_of : (comma head body tail text : List ℕ) → head ++ (body ++ tail) ≡ text → (comma ++ head) ++ (body ++ tail) ≡ comma ++ text
pieces_of comma head body tail text is = append_assoc comma head (body ++ tail) ∙ ap (λ (l : List ℕ). comma ++ l) is

-- ---- a text's head, what is between, and its tail

around : (held head between tail : List ℕ) → held ++ ((head ++ between) ++ tail) ≡ held ++ (head ++ (between ++ tail))
around held head between tail = ap (λ (l : List ℕ). held ++ l) (append_assoc head between tail)

pub head_part : (d : Device) (held head between tail : List ℕ) → WrotePart d (held ++ head) → WrotePart d (held ++ (head ++ (between ++ tail)))
head_part d held head between tail part = subst (WrotePart d) (append_assoc held head (between ++ tail)) (part_of_more d (held ++ head) (between ++ tail) part)

pub bodies_part : (b m a : Option (List ℕ)) (f g j : ℕ) (held head between tail middle : List ℕ) → Passes (of_calls b m f g) held head middle → WrotePart (of_calls m a g j) (middle ++ between)
    → WrotePart (of_calls b a f j) (held ++ (head ++ (between ++ tail)))
bodies_part b m a f g j held head between tail middle p part =
    let before = part_behind b m a f g j held head middle between p part in
    let longer = part_of_more (of_calls b a f j) (held ++ (head ++ between)) tail before in
    subst (WrotePart (of_calls b a f j)) (append_assoc held (head ++ between) tail ∙ around held head between tail) longer

pub tail_part : (b m n a : Option (List ℕ)) (f g h j : ℕ) (held head between tail middle later : List ℕ) → Passes (of_calls b m f g) held head middle → Passes (of_calls m n g h) middle between later
    → WrotePart (of_calls n a h j) (later ++ tail) → WrotePart (of_calls b a f j) (held ++ (head ++ (between ++ tail)))
tail_part b m n a f g h j held head between tail middle later p q part =
    subst (WrotePart (of_calls b a f j)) (around held head between tail)
    (part_behind b n a f h j held (head ++ between) later tail (passes_more b m n f g h held head middle between later p q) part)

-- all of the text came through
pub all_passes : (b m n o : Option (List ℕ)) (f g h i : ℕ) (held head between tail middle later left : List ℕ) → Passes (of_calls b m f g) held head middle → Passes (of_calls m n g h) middle between later
    → Passes (of_calls n o h i) later tail left → Passes (of_calls b o f i) held (head ++ (between ++ tail)) left
all_passes b m n o f g h i held head between tail middle later left p q r =
    subst (λ (l : List ℕ). Passes (of_calls b o f i) held l left) (append_assoc head between tail)
    (passes_more b n o f h i held (head ++ between) later tail left (passes_more b m n f g h held head middle between later p q) r)

pub last_part : (b o a : Option (List ℕ)) (f i j : ℕ) (held text left : List ℕ) → Passes (of_calls b o f i) held text left → WrotePart (of_calls o a i j) left → WrotePart (of_calls b a f j) (held ++ text)
last_part b o a f i j held text left p part =
    let rest = part_behind b o a f i j held text left [] p (subst (WrotePart (of_calls o a i j)) (sym (append-nil left)) part) in
    subst (WrotePart (of_calls b a f j)) (ap (λ (l : List ℕ). held ++ l) (append-nil text)) rest

pub whole_wrote : (b o a : Option (List ℕ)) (f i : ℕ) (held text left : List ℕ) → Passes (of_calls b o f i) held text left → Appends o a left → Appends b a (held ++ text)
whole_wrote b o a f i held text left p wrote = passes_whole b o a f i held text left p wrote
