-- How far a script was read: what its lines so far say, and that none of them is bad.
use Rattle.std.proofs.Common.{◌≡◌, ◌≢◌, ◌<◌, ◌≤◌, ◌+◌, ◌-◌, ℕ, List, [], ◌∷◌, ◌++◌, length, Bool, true, false, cond, Option, Some, None, Ok, Err, inl, inr, refl, ap, sym, ◌∙◌, arith, append_assoc, append-nil, length-append}
use Rattle.std.specs.Prelude.{slice_index, ◌==◌, is_none, unwrap_or}
use Rattle.std.specs.Option.{ok_or, option_map, option_to_list}
use Rattle.std.specs.List.{flat_map, position_from}
use Rattle.std.specs.Str.{IsUtf8, is_utf8}
use Rattle.std.proofs.lemmas.Str.{is_utf8-from_IsUtf8, IsUtf8-from_is_utf8}
use Rattle.std.proofs.lemmas.Grind.{flat_map-append}
use Rattle.xds_resource.specs.declared.refusal.Refusal.{Refusal}
use Rattle.xds_resource.specs.declared.refusal.Refusal.TheVariants.{OutOfMemory, BadScript}
use Rattle.xds_resource.proofs.Refusing.{memory_or_not}
use Rattle.xds_resource.proofs.BoolsAndLists.{shorter_if}
use Rattle.xds_script.specs.Lines.{feed, lines, pieces, without_last_feed}
use Rattle.xds_script.specs.Words.{words}
use Rattle.xds_script.specs.Commands.{Said, says_words}
use Rattle.xds_script.specs.Scripts.{is_skipped, text_says, line_says, is_bad, said_in, first_bad, IsScript, IsRefusedAt}

pub record IsReadTo (script rest : List ℕ) (line : ℕ) (said : List Said) : Type 0 where
  pub before : List (List ℕ)
  pub lines_are : lines script ≡ before ++ pieces feed rest
  pub good : position_from is_bad 1 before ≡ None
  pub says : said ≡ flat_map said_in before
  pub number_is : line ≡ length before + 1
  pub short : length before + length rest ≤ length script

pub read_none : (script : List ℕ) → IsReadTo script (without_last_feed script) 1 []
read_none script = record {
  before = [];
  lines_are = refl;
  good = refl;
  says = refl;
  number_is = refl;
  short = omega (arith, shorter_if (slice_index script (length script - 1) == feed) (length script - 1) script);
}

-- ---- the first bad line

past : (b : Bool) (i : ℕ) (o : Option ℕ) → cond b (Some i) o ≡ None → (b ≡ false) × (o ≡ None)
past true i o e = cc
past false i o e = (refl, e)

-- a good line behind good lines
good_more : (i : ℕ) (ls : List (List ℕ)) (line : List ℕ) → position_from is_bad i ls ≡ None → is_bad line ≡ false → position_from is_bad i (ls ++ line ∷ []) ≡ None
good_more i [] line good here = ap (λ b. cond b (Some i) None) here
good_more i (l ∷ ls) line good here =
    let parts = past (is_bad l) i (position_from is_bad (i + 1) ls) good in
    ap (λ b. cond b (Some i) (position_from is_bad (i + 1) (ls ++ line ∷ []))) parts.0 ∙ good_more (i + 1) ls line parts.1 here

-- a bad line behind good lines is the first
bad_behind : (i n : ℕ) (ls : List (List ℕ)) (line : List ℕ) (after : List (List ℕ)) → position_from is_bad i ls ≡ None → is_bad line ≡ true → n ≡ length ls + i → position_from is_bad i (ls ++ line ∷ after) ≡ Some n
bad_behind i n [] line after good here e = ap (λ b. cond b (Some i) (position_from is_bad (i + 1) after)) here ∙ ap Some (omega (arith, e))
bad_behind i n (l ∷ ls) line after good here e =
    let parts = past (is_bad l) i (position_from is_bad (i + 1) ls) good in
    ap (λ b. cond b (Some i) (position_from is_bad (i + 1) (ls ++ line ∷ after))) parts.0 ∙ bad_behind (i + 1) n ls line after parts.1 here (omega (arith, e))

-- ---- further lines

said_more : (before : List (List ℕ)) (line : List ℕ) (said new : List Said) → said ≡ flat_map said_in before → new ≡ said ++ said_in line → new ≡ flat_map said_in (before ++ line ∷ [])
said_more before line said new so_far is =
    is ∙ ap (λ (l : List Said). l ++ said_in line) so_far ∙ ap (λ (l : List Said). flat_map said_in before ++ l) (sym (append-nil (said_in line)))
    ∙ sym (flat_map-append said_in before (line ∷ []))

pub read_more : (script rest next bytes : List ℕ) (line : ℕ) (said new : List Said) → IsReadTo script rest line said → pieces feed rest ≡ bytes ∷ pieces feed next → length next < length rest
    → is_bad bytes ≡ false → new ≡ said ++ said_in bytes → IsReadTo script next (line + 1) new
read_more script rest next bytes line said new r split shorter good is = record {
  before = r.before ++ bytes ∷ [];
  lines_are = r.lines_are ∙ ap (λ (ps : List (List ℕ)). r.before ++ ps) split ∙ sym (append_assoc r.before (bytes ∷ []) (pieces feed next));
  good = good_more 1 r.before bytes r.good good;
  says = said_more r.before bytes said new r.says is;
  number_is = omega (arith, r.number_is, length-append r.before (bytes ∷ []));
  short = omega (arith, r.short, shorter, length-append r.before (bytes ∷ []));
}

pub read_all : (script rest : List ℕ) (line : ℕ) (said new : List Said) → IsReadTo script rest line said → pieces feed rest ≡ rest ∷ [] → is_bad rest ≡ false → new ≡ said ++ said_in rest → IsScript script new
read_all script rest line said new r last good is =
    let whole : lines script ≡ r.before ++ rest ∷ [] = r.lines_are ∙ ap (λ (ps : List (List ℕ)). r.before ++ ps) last in
    record { good = ap first_bad whole ∙ good_more 1 r.before rest r.good good; says = said_more r.before rest said new r.says is ∙ ap (flat_map said_in) (sym whole) }

-- a line that isn't taken is the first bad one, or there was no memory
pub read_bad : (script rest bytes : List ℕ) (after : List (List ℕ)) (line : ℕ) (said : List Said) (e : Refusal) → IsReadTo script rest line said → pieces feed rest ≡ bytes ∷ after
    → (e ≢ OutOfMemory → (e ≡ BadScript) × (is_bad bytes ≡ true)) → IsRefusedAt script line e
read_bad script rest bytes after line said e r split why =
    elim (memory_or_not e) [
      | inl memory ↦ inl memory
      | inr other ↦
          let p = why other in
          inr (p.0, ap first_bad (r.lines_are ∙ ap (λ (ps : List (List ℕ)). r.before ++ ps) split) ∙ bad_behind 1 line r.before bytes after r.good p.1 (omega (arith, r.number_is)))
    ]

-- ---- one line

-- a line that isn't skipped says what its text says
pub line_says-kept : (line : List ℕ) → is_skipped line ≡ false → line_says line ≡ option_map Some (text_says line)
line_says-kept line kept = ap (λ b. cond b (Some None) (option_map Some (text_says line))) kept

pub text_says-utf8 : (line text : List ℕ) → (text ≡ line) × IsUtf8 line → says_words (words text) ≡ text_says line
text_says-utf8 line text is = ap (λ t. says_words (words t)) is.0 ∙ ap (λ b. cond b (says_words (words line)) None) (sym (is_utf8-from_IsUtf8 line is.1))

no_text : (b : Bool) (o : Option Said) → (b ≡ true → ⊥) → cond b o None ≡ None
no_text true o refuted = absurd (refuted refl)
no_text false o refuted = refl

pub text_says-other : (line : List ℕ) → ¬ (IsUtf8 line) → text_says line ≡ None
text_says-other line other = no_text (is_utf8 line) (says_words (words line)) (λ is. other (IsUtf8-from_is_utf8 line is))

bad_if : (o : Option (Option Said)) (e : Refusal) → ok_or o BadScript ≡ Err e → (e ≡ BadScript) × (is_none o ≡ true)
bad_if None e h = (cc, refl)
bad_if (Some x) e h = cc

-- a line that is refused, but for memory, is bad
pub refused_line : (line : List ℕ) (e : Refusal) → (e ≢ OutOfMemory → ok_or (line_says line) BadScript ≡ Err e) → e ≢ OutOfMemory → (e ≡ BadScript) × (is_bad line ≡ true)
refused_line line e h other = bad_if (line_says line) e (h other)

good_if : (o : Option (Option Said)) (said : Option Said) → ok_or o BadScript ≡ Ok said → (is_none o ≡ false) × (option_to_list said ≡ option_to_list (unwrap_or o None))
good_if None said h = cc
good_if (Some x) said h = let same : x ≡ said = cc in (refl, ap option_to_list (sym same))

-- a line that is read isn't bad, and says what was read
pub read_line_says : (line : List ℕ) (said : Option Said) → ok_or (line_says line) BadScript ≡ Ok said → (is_bad line ≡ false) × (option_to_list said ≡ said_in line)
read_line_says line said h = good_if (line_says line) said h
