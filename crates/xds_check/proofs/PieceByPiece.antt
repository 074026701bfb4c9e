-- The bytes of a trace that come in pieces: whole lines, and the beginning of one.
use Rattle.std.proofs.Common.{◌≡◌, ◌≢◌, ◌+◌, ℕ, List, [], ◌∷◌, ◌++◌, length, reverse, Bool, true, false, ◌||◌, Option, inl, inr, refl, ap, sym, ◌∙◌, subst, arith, append_assoc, append-nil, true≢false}
use Rattle.std.specs.Prelude.{◌==◌}
use Rattle.std.proofs.lemmas.Bool.{eqb-true, eq-eqb}
use Rattle.std.specs.List.{list_any}
use Rattle.std.proofs.lemmas.List.Elements.{All-push, All-nil}
use Rattle.std.proofs.lemmas.List.{nil_from_length}
use Rattle.xds_resource.specs.declared.refusal.Refusal.{Refusal}
use Rattle.xds_resource.specs.declared.refusal.Refusal.TheVariants.{OutOfMemory, BadTrace}
use Rattle.xds_resource.proofs.Refusing.{memory_or_not}
use Rattle.xds_check.specs.declared.checking.Broken.{Broken}
use Rattle.xds_check.specs.declared.line.Line.{Line}
use Rattle.xds_check.specs.declared.piecewise.PiecewiseChecker.{PiecewiseChecker}
use Rattle.xds_check.specs.Checkers.{HasTaken, TakesText, HasRead, IsVerdictOf}
use Rattle.xds_check.specs.Streams.{may_follow}
use Rattle.xds_check.specs.Texts.{SayAll, ended, IsOneLine, IsBad, IsFirstBad, IsRefusedAt}
use Rattle.xds_check.specs.Verdicts.{IsVerdict}
use Rattle.xds_check.proofs.Traces.{ended-more, say-more}

-- ---- texts

head_out : (a b c : Bool) → (a || b) ≡ false → (b ≡ false → c ≡ false) → (a || c) ≡ false
head_out true b c e more = absurd cc
head_out false b c e more = more e

one_line-append : (xs ys : List ℕ) → IsOneLine xs → IsOneLine ys → IsOneLine (xs ++ ys)
one_line-append [] ys one two = two
one_line-append (x ∷ xs) ys one two = head_out (x == 10) (list_any (λ b. b == 10) xs) (list_any (λ b. b == 10) (xs ++ ys)) one (λ rest. one_line-append xs ys rest two)

-- as many texts as lines
say_long : (earlier : List Line) (texts : List (List ℕ)) (ls : List Line) → SayAll earlier texts ls → length texts ≡ length ls
say_long earlier [] [] say = refl
say_long earlier [] (l ∷ ls) say = absurd say
say_long earlier (text ∷ texts) [] say = absurd say
say_long earlier (text ∷ texts) (l ∷ ls) say = omega (arith, say_long (l ∷ earlier) texts ls say.2)

-- what is behind the lines that ended, where a line ends
behind_ended : (bytes part held text following : List ℕ) (texts : List (List ℕ)) → bytes ≡ ended texts ++ held → text ≡ held ++ part → bytes ++ part ++ 10 ∷ following ≡ ended texts ++ (text ++ 10 ∷ following)
behind_ended bytes part held text following texts are is =
    append_assoc bytes part (10 ∷ following) ∙ ap (λ (l : List ℕ). l ++ (part ++ 10 ∷ following)) are ∙ append_assoc (ended texts) held (part ++ 10 ∷ following)
    ∙ ap (λ (l : List ℕ). ended texts ++ l) (sym (append_assoc held part (10 ∷ following)) ∙ ap (λ (l : List ℕ). l ++ 10 ∷ following) (sym is))

ended_here : (bytes part held text : List ℕ) (texts : List (List ℕ)) → bytes ≡ ended texts ++ held → text ≡ held ++ part → (following : List ℕ) → bytes ++ part ++ 10 ∷ following ≡ ended (texts ++ text ∷ []) ++ following
ended_here bytes part held text texts are is following = behind_ended bytes part held text following texts are is ∙ ended-more texts text following

all_bytes : (bytes front piece rest part following more : List ℕ) → piece ≡ front ++ rest → rest ≡ part ++ 10 ∷ following → bytes ++ front ++ part ++ 10 ∷ (following ++ more) ≡ bytes ++ piece ++ more
all_bytes bytes front piece rest part following more piece_is split =
    append_assoc (bytes ++ front) part (10 ∷ (following ++ more)) ∙ append_assoc bytes front (part ++ 10 ∷ (following ++ more))
    ∙ ap (λ (l : List ℕ). bytes ++ l) (ap (λ (l : List ℕ). front ++ l) (sym (append_assoc part (10 ∷ following) more) ∙ ap (λ (l : List ℕ). l ++ more) (sym split)) ∙ sym (append_assoc front rest more) ∙ ap (λ (l : List ℕ). l ++ more) (sym piece_is))
    ∙ sym (append_assoc bytes piece more)

-- what is_empty tells of what is held
pub held_none : (length_of : ℕ) (items : List ℕ) (b : Bool) → b ≡ (length_of == 0) → length_of ≡ length items → b ≡ true → items ≡ []
held_none n items b is same none = nil_from_length items (sym same ∙ eqb-true n 0 (sym is ∙ none))

pub held_some : (length_of : ℕ) (items : List ℕ) (b : Bool) → b ≡ (length_of == 0) → length_of ≡ length items → b ≡ false → items ≢ []
held_some n items b is same some none = let zero_long = eq-eqb n 0 (same ∙ ap length none) in true≢false (sym zero_long ∙ sym is ∙ some)

-- ---- what was read

pub read_nothing : (c : PiecewiseChecker) → HasTaken [] c.checker → c.held.items ≡ [] → HasRead [] c
read_nothing c taken empty = record {
  texts = [];
  lines = [];
  bytes_are = sym empty;
  each = All-nil IsOneLine;
  begun = subst IsOneLine (sym empty) refl;
  say = tt;
  taken = taken;
}

-- a text that is held grows by a part without a line feed
pub read_part : (bytes part : List ℕ) (c after : PiecewiseChecker) → HasRead bytes c → IsOneLine part → after.checker ≡ c.checker → after.held.items ≡ c.held.items ++ part → HasRead (bytes ++ part) after
read_part bytes part c after r one same grown = record {
  texts = r.texts;
  lines = r.lines;
  bytes_are = ap (λ (l : List ℕ). l ++ part) r.bytes_are ∙ append_assoc (ended r.texts) c.held.items part ∙ ap (λ (l : List ℕ). ended r.texts ++ l) (sym grown);
  each = r.each;
  begun = subst IsOneLine (sym grown) (one_line-append c.held.items part r.begun one);
  say = r.say;
  taken = subst (HasTaken r.lines) (sym same) r.taken;
}

-- a line ends
pub read_line_more : (bytes part text : List ℕ) (c after : PiecewiseChecker) → HasRead bytes c → IsOneLine part → text ≡ c.held.items ++ part → TakesText text c.checker after.checker → after.held.items ≡ []
    → HasRead (bytes ++ part ++ 10 ∷ []) after
read_line_more bytes part text c after r one is t empty =
    let follows : may_follow (reverse r.lines ++ []) t.line ≡ true = ap (λ (e : List Line). may_follow e t.line) (append-nil (reverse r.lines)) ∙ t.follows r.lines r.taken in
    record {
      texts = r.texts ++ text ∷ [];
      lines = r.lines ++ t.line ∷ [];
      bytes_are =
          ended_here bytes part c.held.items text r.texts r.bytes_are is [] ∙ ap (λ (l : List ℕ). ended (r.texts ++ text ∷ []) ++ l) (sym empty);
      each = All-push IsOneLine r.texts text r.each (subst IsOneLine (sym is) (one_line-append c.held.items part r.begun one));
      begun = subst IsOneLine (sym empty) refl;
      say = say-more [] r.texts r.lines text t.line r.say t.says follows;
      taken = t.taken r.lines r.taken;
    }

-- the line that ends is bad
pub read_bad_line : (bytes part text following : List ℕ) (c : PiecewiseChecker) → HasRead bytes c → IsOneLine part → text ≡ c.held.items ++ part → ((lines : List Line) → HasTaken lines c.checker → IsBad (reverse lines) text)
    → IsFirstBad (bytes ++ part ++ 10 ∷ following) (c.checker.taken + 1)
read_bad_line bytes part text following c r one is bad = record {
  texts = r.texts;
  before = r.lines;
  rest = text ++ 10 ∷ following;
  bytes_are = behind_ended bytes part c.held.items text following r.texts r.bytes_are is;
  each = r.each;
  say = r.say;
  number_is = omega (arith, r.taken.count, say_long [] r.texts r.lines r.say);
  bad = inr (text, following, refl, subst IsOneLine (sym is) (one_line-append c.held.items part r.begun one), bad r.lines r.taken);
}

-- ---- a piece

-- a beginning of a piece was read
pub record IsReadOf (piece rest : List ℕ) (old new : PiecewiseChecker) : Type 0 where
  pub front : List ℕ
  pub piece_is : piece ≡ front ++ rest
  pub goes_on : (bytes : List ℕ) → HasRead bytes old → HasRead (bytes ++ front) new

pub piece_some : (piece rest : List ℕ) (old new : PiecewiseChecker) → IsReadOf piece rest old new → ((bytes : List ℕ) × HasRead bytes old) → (bytes : List ℕ) × HasRead bytes new
piece_some piece rest old new p some = (some.0 ++ p.front, p.goes_on some.0 some.1)

pub piece_more : (piece rest part following : List ℕ) (old now after : PiecewiseChecker) → IsReadOf piece rest old now → rest ≡ part ++ 10 ∷ following
    → ((bytes : List ℕ) → HasRead bytes now → HasRead (bytes ++ part ++ 10 ∷ []) after) → IsReadOf piece following old after
piece_more piece rest part following old now after p split more = record {
  front = p.front ++ part ++ 10 ∷ [];
  piece_is = p.piece_is ∙ ap (λ (l : List ℕ). p.front ++ l) split ∙ sym (append_assoc p.front part (10 ∷ following)) ∙ sym (append_assoc (p.front ++ part) (10 ∷ []) following);
  goes_on = λ bytes r.
      subst (λ (l : List ℕ). HasRead l after) (append_assoc (bytes ++ p.front) part (10 ∷ []) ∙ append_assoc bytes p.front (part ++ 10 ∷ []) ∙ ap (λ (l : List ℕ). bytes ++ l) (sym (append_assoc p.front part (10 ∷ []))))
      (more (bytes ++ p.front) (p.goes_on bytes r));
}

pub piece_all : (piece rest : List ℕ) (old now after : PiecewiseChecker) → IsReadOf piece rest old now → IsOneLine rest → after.checker ≡ now.checker → after.held.items ≡ now.held.items ++ rest
    → (bytes : List ℕ) → HasRead bytes old → HasRead (bytes ++ piece) after
piece_all piece rest old now after p one same grown bytes r =
    subst (λ (l : List ℕ). HasRead l after) (append_assoc bytes p.front rest ∙ ap (λ (l : List ℕ). bytes ++ l) (sym p.piece_is)) (read_part (bytes ++ p.front) rest now after (p.goes_on bytes r) one same grown)

-- why a line isn't taken, where it ends
pub end_refused : (part text : List ℕ) (c : PiecewiseChecker) (e : Refusal) → IsOneLine part → text ≡ c.held.items ++ part → (e ≢ OutOfMemory → (e ≡ BadTrace) × ((lines : List Line) → HasTaken lines c.checker → IsBad (reverse lines) text))
    → e ≢ OutOfMemory → (e ≡ BadTrace) × ((bytes following : List ℕ) → HasRead bytes c → IsFirstBad (bytes ++ part ++ 10 ∷ following) (c.checker.taken + 1))
end_refused part text c e one is why other = let k = why other in (k.0, λ bytes following r. read_bad_line bytes part text following c r one is k.1)

-- the first bad line of a piece is that of all bytes
pub piece_bad : (piece rest part following : List ℕ) (old now : PiecewiseChecker) (number : ℕ) (e : Refusal) → IsReadOf piece rest old now → rest ≡ part ++ 10 ∷ following
    → (e ≢ OutOfMemory → (e ≡ BadTrace) × ((bytes more : List ℕ) → HasRead bytes now → IsFirstBad (bytes ++ part ++ 10 ∷ more) number))
    → (bytes more : List ℕ) → HasRead bytes old → IsRefusedAt (bytes ++ piece ++ more) number e
piece_bad piece rest part following old now number e p split why bytes more r =
    elim (memory_or_not e) [
      | inl memory ↦ inl memory
      | inr other ↦
          let is = why other in
          inr (is.0, subst (λ (l : List ℕ). IsFirstBad l number) (all_bytes bytes p.front piece rest part following more p.piece_is split) (is.1 (bytes ++ p.front) (following ++ more) (p.goes_on bytes r)))
    ]

-- ---- the end

pub read_whole : (bytes : List ℕ) (c : PiecewiseChecker) (told : Option Broken) → c.held.items ≡ [] → ((lines : List Line) → HasTaken lines c.checker → IsVerdict lines told) → HasRead bytes c → IsVerdictOf bytes told
read_whole bytes c told empty verdict r =
    (r.lines, record { texts = r.texts; bytes_are = r.bytes_are ∙ ap (λ (l : List ℕ). ended r.texts ++ l) empty ∙ append-nil (ended r.texts); each = r.each; say = r.say }, verdict r.lines r.taken)

pub read_unended : (bytes : List ℕ) (c : PiecewiseChecker) → c.held.items ≢ [] → HasRead bytes c → IsFirstBad bytes (c.checker.taken + 1)
read_unended bytes c some r = record {
  texts = r.texts;
  before = r.lines;
  rest = c.held.items;
  bytes_are = r.bytes_are;
  each = r.each;
  say = r.say;
  number_is = omega (arith, r.taken.count, say_long [] r.texts r.lines r.say);
  bad = inl (some, r.begun);
}
