-- How far the lines of an input were taken and their changes handed over, as its bytes come, and how that ends.
use Rattle.std.proofs.Common.{◌≡◌, ◌≢◌, ◌<◌, ◌+◌, ◌==◌, ℕ, List, [], ◌∷◌, ◌++◌, length, map, ◌-◌, ◌^◌, Bool, true, false, cond, Option, Some, None, Result, Ok, Err, refl, ap, sym, ◌∙◌, subst, arith, append_assoc, append-nil, length-append}
use Rattle.std.specs.Prelude.{min}
use Rattle.std.specs.Option.{option_map, option_to_list}
use Rattle.std.specs.List.{flat_map, onto_first}
use Rattle.std.specs.Io.KnownBytes.{Consumes, IsAtEnd, Keeps, ReadConsumes}
use Rattle.std.proofs.KnownBytes.{Consumes-nil, Consumes-trans, Consumes-kept}
use Rattle.std.proofs.lemmas.List.Elements.{All-nil, All-append}
use Rattle.std.proofs.lemmas.Grind.{flat_map-append}
use Rattle.std.proofs.lemmas.Bool.{false≢true}
use Rattle.xds_resource.specs.Refusals.{Gives}
use Rattle.xds_resource.specs.declared.refusal.Refusal.{Refusal}
use Rattle.xds_resource.specs.declared.refusal.Refusal.TheVariants.{OutOfMemory, Device}
use Rattle.xds_script.specs.Lines.{feed, pieces}
use Rattle.xds_changes.specs.declared.change.Change.{Change}
use Rattle.xds_notes.specs.declared.ending.End.{End}
use Rattle.xds_notes.specs.declared.ending.End.TheVariants.{Line, Refused}
use Rattle.xds_changes.specs.Changes.{Written, change_of, change_in}
use Rattle.xds_changes.specs.Handing.{AllHanded, line_after, behind, HandsLast, TakesAll, TakesUpTo, StopsInput, TakesInput}
use Rattle.xds_changes.specs.Inputs.{brings, is_wrong, AreTaken, AreRefused, AreEnded, Takes}
use Rattle.xds_causes.proofs.Pieces.{first_piece}
use Rattle.xds_changes.proofs.Changing.{good_line}
use Rattle.xds_changes.proofs.Takings.{line_more, why_of}

-- ---- bytes behind bytes

alone : (ps : List (List ℕ)) (h : List ℕ) (further : List ℕ → List (List ℕ)) (first : List (List ℕ)) → first ≡ further [] → [] ∷ [] ≡ ps ++ h ∷ [] → first ≡ ps ++ further h
alone [] h further first is e = let none : [] ≡ h = cc in is ∙ ap further none
alone (q ∷ []) h further first is e = cc
alone (q ∷ r ∷ rs) h further first is e = cc

impossible : (o : List ℕ) (os : List (List ℕ)) → o ∷ os ≡ [] → ⊥
impossible o os e = absurd cc

-- one byte in front: what is known of the pieces of the bytes behind it is known of all
in_front : (t : Bool) (b : ℕ) (o : List ℕ) (os old new : List (List ℕ)) (further : List ℕ → List (List ℕ)) → old ≡ o ∷ os
    → ((q : List ℕ) → further (b ∷ q) ≡ cond t ([] ∷ further q) (onto_first b (further q)))
    → ((ps : List (List ℕ)) (h : List ℕ) → old ≡ ps ++ h ∷ [] → new ≡ ps ++ further h)
    → (ps : List (List ℕ)) (h : List ℕ) → cond t ([] ∷ old) (onto_first b old) ≡ ps ++ h ∷ [] → cond t ([] ∷ new) (onto_first b new) ≡ ps ++ further h
in_front true b o os old new further first step known [] h e = let empty : old ≡ [] = cc in absurd (impossible o os (sym first ∙ empty))
in_front true b o os old new further first step known (q ∷ qs) h e =
    let empty : [] ≡ q = cc in
    let rest : old ≡ qs ++ h ∷ [] = cc in
    ap (λ (l : List (List ℕ)). [] ∷ l) (known qs h rest) ∙ ap (λ (l : List ℕ). l ∷ (qs ++ further h)) empty
in_front false b o os old new further first step known [] h e =
    let one : (b ∷ o) ∷ os ≡ h ∷ [] = sym (ap (onto_first b) first) ∙ e in
    let is : b ∷ o ≡ h = cc in
    let none : os ≡ [] = cc in
    ap (onto_first b) (known [] o (first ∙ ap (λ (l : List (List ℕ)). o ∷ l) none)) ∙ sym (step o) ∙ ap further is
in_front false b o os old new further first step known (q ∷ qs) h e =
    let more : (b ∷ o) ∷ os ≡ q ∷ (qs ++ h ∷ []) = sym (ap (onto_first b) first) ∙ e in
    let is : b ∷ o ≡ q = cc in
    let rest : os ≡ qs ++ h ∷ [] = cc in
    ap (onto_first b) (known (o ∷ qs) h (first ∙ ap (λ (l : List (List ℕ)). o ∷ l) rest)) ∙ ap (λ (l : List ℕ). l ∷ (qs ++ further h)) is

-- what stands behind some bytes continues their last piece
pub pieces_more : (m : ℕ) (came more : List ℕ) (ps : List (List ℕ)) (h : List ℕ) → pieces m came ≡ ps ++ h ∷ [] → pieces m (came ++ more) ≡ ps ++ pieces m (h ++ more)
pieces_more m [] more ps h e = alone ps h (λ q. pieces m (q ++ more)) (pieces m more) refl e
pieces_more m (b ∷ came) more ps h e =
    let first = first_piece m came in
    in_front (b == m) b first.0 first.1 (pieces m came) (pieces m (came ++ more)) (λ q. pieces m (q ++ more)) first.2 (λ q. refl) (pieces_more m came more) ps h e

-- ---- lines and changes behind others

taken_both : (before after : List (List ℕ)) (changes new : List Written) → AreTaken before changes → AreTaken after new → AreTaken (before ++ after) (changes ++ new)
taken_both before after changes new one other = record {
  good = All-append (λ l. is_wrong l ≡ false) before after one.good other.good;
  brought_are = ap (λ (l : List Written). l ++ new) one.brought_are ∙ ap (λ (l : List Written). flat_map brings before ++ l) other.brought_are
      ∙ sym (flat_map-append brings before after);
}

pub ended_more : (came piece held left : List ℕ) (changes new : List Written) (count more : ℕ) → AreEnded came changes count held → AreEnded (held ++ piece) new more left
    → AreEnded (came ++ piece) (changes ++ new) (count + more) left
ended_more came piece held left changes new count more one other = record {
  lines = one.lines ++ other.lines;
  lines_are = pieces_more feed came piece one.lines held one.lines_are ∙ ap (λ (l : List (List ℕ)). one.lines ++ l) other.lines_are
      ∙ sym (append_assoc one.lines other.lines (left ∷ []));
  taken = taken_both one.lines other.lines changes new one.taken other.taken;
  count_is = omega (arith, one.count_is, other.count_is, length-append one.lines other.lines);
}

pub refused_more : (came piece held : List ℕ) (changes new : List Written) (count more : ℕ) (e : Refusal) → AreEnded came changes count held
    → AreRefused (pieces feed (held ++ piece)) new more e → AreRefused (pieces feed (came ++ piece)) (changes ++ new) (count + more) e
refused_more came piece held changes new count more e one other = record {
  before = one.lines ++ other.before;
  refused = other.refused;
  behind = other.behind;
  lines_are = pieces_more feed came piece one.lines held one.lines_are ∙ ap (λ (l : List (List ℕ)). one.lines ++ l) other.lines_are
      ∙ sym (append_assoc one.lines other.before (other.refused ∷ other.behind));
  taken = taken_both one.lines other.before changes new one.taken other.taken;
  count_is = omega (arith, one.count_is, other.count_is, length-append one.lines other.before);
  why = other.why;
}

-- a read that gives no byte, though there was room for some, found the input at its end
pub read_none : {E : Type 0} (mid after : Option (List ℕ)) (r : Result ℕ E) (n : ℕ) (buf : List ℕ) → r ≡ Ok n → n ≡ 0 → 0 < length buf → ReadConsumes mid after r buf
    → Consumes mid after [] × IsAtEnd after
read_none {E} mid after r n buf is none room reads =
    let given = subst (λ x. ReadConsumes {E = E} mid after x buf) (is ∙ ap Ok none) reads in
    (given.0, given.1 refl room)

-- ---- the numbers of lines

min_add : (most a b : ℕ) → min (min a most + b) most ≡ min (a + b) most
min_add most a b = omega arith

pub line_further : (line next count more : ℕ) → line ≡ line_after 1 count → next ≡ line_after line more → next ≡ line_after 1 (count + more)
line_further line next count more at is =
    is ∙ ap (λ n. min (n + more) (2 ^ 64 - 1)) at ∙ min_add (2 ^ 64 - 1) (1 + count) more ∙ ap (λ n. min n (2 ^ 64 - 1)) (omega arith)

-- what was taken of a piece was refused nowhere where the number of the next line is told
pub none_refused : (line more next : ℕ) (refused : Option Refusal) → Ok next ≡ behind line more refused → (refused ≡ None) × (next ≡ line_after line more)
none_refused line more next None is = (refl, cc)
none_refused line more next (Some e) is = absurd cc

-- and else a line is told
pub some_refused : (line more : ℕ) (end : End) (refused : Option Refusal) → Err end ≡ behind line more refused
    → (e : Refusal) × (refused ≡ Some e) × (end ≡ Line (line_after line more) e)
some_refused line more end None is = absurd cc
some_refused line more end (Some e) is = (e, refl, cc)

module _ {S : Type 0} (hands : S → S → Written → Type 0) where
  pub handed_more : (s t u : S) (changes new : List Written) → AllHanded hands s t changes → AllHanded hands t u new → AllHanded hands s u (changes ++ new)
  handed_more s t u [] new one other = subst (λ x. AllHanded hands x u new) one other
  handed_more s t u (c ∷ changes) new (v, first, rest) other = (v, first, handed_more v t u changes new rest other)

  -- one change more was handed over
  pub handed_push : (s t u : S) (before : List Change) (change : Change) → AllHanded hands s t (map change_of before) → hands t u (change_of change)
      → AllHanded hands s u (map change_of (before ++ change ∷ []))
  handed_push s t u [] change same is = (u, subst (λ x. hands x u (change_of change)) same is, refl)
  handed_push s t u (c ∷ before) change (v, first, rest) is = (v, first, handed_push v t u before change rest is)

  pub handed_one : (s t : S) (change : Written) → hands s t change → AllHanded hands s t (change ∷ [])
  handed_one s t change is = (t, is, refl)

  -- The lines that ended in the bytes so far were taken, and what they change was handed over; this is held of the next one, whose number is known.
  pub record IsTakenSoFar (s t : S) (before after : Option (List ℕ)) (held : List ℕ) (line : ℕ) : Type 0 where
    pub came : List ℕ
    pub changes : List Written
    pub count : ℕ
    pub read : Consumes before after came
    pub ended : AreEnded came changes count held
    pub handed : AllHanded hands s t changes
    pub line_is : line ≡ line_after 1 count

  pub so_far_none : (s : S) (before : Option (List ℕ)) (held : List ℕ) → held ≡ [] → IsTakenSoFar s s before before held 1
  so_far_none s before held none = record {
    came = [];
    changes = [];
    count = 0;
    read = Consumes-nil before;
    ended = record {
      lines = [];
      lines_are = ap (λ (l : List ℕ). l ∷ []) (sym none);
      taken = record { good = All-nil (λ l. is_wrong l ≡ false); brought_are = refl };
      count_is = refl;
    };
    handed = refl;
    line_is = refl;
  }

  pub so_far_kept : (s t : S) (before mid after : Option (List ℕ)) (held : List ℕ) (line : ℕ) → IsTakenSoFar s t before mid held line → Keeps mid after → IsTakenSoFar s t before after held line
  so_far_kept s t before mid after held line so_far keeps = record {
    came = so_far.came;
    changes = so_far.changes;
    count = so_far.count;
    read = Consumes-kept before mid after so_far.came so_far.read keeps;
    ended = so_far.ended;
    handed = so_far.handed;
    line_is = so_far.line_is;
  }

  so_far_read : (s t : S) (before mid after : Option (List ℕ)) (held : List ℕ) (line : ℕ) → IsTakenSoFar s t before mid held line → Consumes mid after [] → IsTakenSoFar s t before after held line
  so_far_read s t before mid after held line so_far reads = record {
    came = so_far.came;
    changes = so_far.changes;
    count = so_far.count;
    read = subst (Consumes before after) (append-nil so_far.came) (Consumes-trans before mid after so_far.came [] so_far.read reads);
    ended = so_far.ended;
    handed = so_far.handed;
    line_is = so_far.line_is;
  }

  pub so_far_more : (s t u : S) (before mid after : Option (List ℕ)) (held left piece : List ℕ) (line next more : ℕ) (new : List Written) (refused : Option Refusal)
      → IsTakenSoFar s t before mid held line → Consumes mid after piece → Takes (held ++ piece) new more refused left → AllHanded hands t u new
      → Ok next ≡ behind line more refused → IsTakenSoFar s u before after left next
  so_far_more s t u before mid after held left piece line next more new refused so_far reads takes handed told =
      let none = none_refused line more next refused told in
      let ended = subst (λ r. Takes (held ++ piece) new more r left) none.0 takes in record {
        came = so_far.came ++ piece;
        changes = so_far.changes ++ new;
        count = so_far.count + more;
        read = Consumes-trans before mid after so_far.came piece so_far.read reads;
        ended = ended_more so_far.came piece held left so_far.changes new so_far.count more so_far.ended ended;
        handed = handed_more s t u so_far.changes new so_far.handed handed;
        line_is = line_further line next so_far.count more so_far.line_is none.1;
      }

  -- a line of a piece is refused
  pub input_refused : (s t u : S) (before mid after : Option (List ℕ)) (held left piece : List ℕ) (line more : ℕ) (end : End) (new : List Written) (refused : Option Refusal)
      → IsTakenSoFar s t before mid held line → Consumes mid after piece → Takes (held ++ piece) new more refused left → AllHanded hands t u new
      → Err end ≡ behind line more refused → StopsInput hands s u before after end
  input_refused s t u before mid after held left piece line more end new refused so_far reads takes handed told =
      let some = some_refused line more end refused told in
      let stops = subst (λ r. Takes (held ++ piece) new more r left) some.1 takes in
      subst (λ e. StopsInput hands s u before after e) (sym some.2) (
        so_far.came ++ piece,
        Consumes-trans before mid after so_far.came piece so_far.read reads,
        record {
          changes = so_far.changes ++ new;
          count = so_far.count + more;
          refused = refused_more so_far.came piece held so_far.changes new so_far.count more some.0 so_far.ended stops;
          line_is = line_further line (line_after line more) so_far.count more so_far.line_is refl;
          handed = handed_more s t u so_far.changes new so_far.handed handed;
        },
      )

  -- a read fails
  pub input_failed : (s t : S) (before mid after : Option (List ℕ)) (held : List ℕ) (line : ℕ) → IsTakenSoFar s t before mid held line → Keeps mid after
      → StopsInput hands s t before after (Refused Device)
  input_failed s t before mid after held line so_far keeps = (
    so_far.came,
    Consumes-kept before mid after so_far.came so_far.read keeps,
    refl,
    record { changes = so_far.changes; count = so_far.count; left = held; ended = so_far.ended; handed = so_far.handed },
  )

  -- the bytes that are held are the last line, and it is good
  all_taken : (s t u : S) (before after : Option (List ℕ)) (held : List ℕ) (line : ℕ) (change : Option Written) (so_far : IsTakenSoFar s t before after held line)
      → change_in held ≡ Ok change → AllHanded hands t u (option_to_list change) → TakesAll hands s u so_far.came
  all_taken s t u before after held line change so_far reads handed =
      let good = good_line (change_in held) change reads in record {
        changes = so_far.changes ++ option_to_list change;
        taken = subst (λ ls. AreTaken ls (so_far.changes ++ option_to_list change)) (sym so_far.ended.lines_are)
            (line_more so_far.ended.lines held so_far.changes (so_far.changes ++ option_to_list change) so_far.ended.taken good.0 (ap (λ l. so_far.changes ++ l) (sym good.1)));
        handed = handed_more s t u so_far.changes (option_to_list change) so_far.handed handed;
      }

  last_refused : (s t : S) (before after : Option (List ℕ)) (held : List ℕ) (line : ℕ) (e : Refusal) (so_far : IsTakenSoFar s t before after held line)
      → (e ≢ OutOfMemory → change_in held ≡ Err e) → TakesUpTo hands s t so_far.came line e
  last_refused s t before after held line e so_far reads = record {
    changes = so_far.changes;
    count = so_far.count;
    refused = record {
      before = so_far.ended.lines;
      refused = held;
      behind = [];
      lines_are = so_far.ended.lines_are;
      taken = so_far.ended.taken;
      count_is = so_far.ended.count_is;
      why = why_of e held reads;
    };
    line_is = so_far.line_is;
    handed = so_far.handed;
  }

  -- the input is at its end
  pub input_ended : {T : Type 0} (s t u : S) (before mid after : Option (List ℕ)) (held : List ℕ) (line : ℕ) (change : Result (Option Change) Refusal) (r : Result T End)
      → IsTakenSoFar s t before mid held line → Consumes mid after [] → IsAtEnd after → Gives (option_map change_of) change (change_in held) → HandsLast hands t u change line r
      → TakesInput hands s u before after r
  input_ended s t u before mid after held line (Ok (Some c)) (Ok x) so_far reads at_end gives (handed, ok) =
      let now = so_far_read s t before mid after held line so_far reads in
      (now.came, now.read, at_end, all_taken s t u before after held line (Some (change_of c)) now gives (handed_one t u (change_of c) handed))
  input_ended s t u before mid after held line (Ok None) (Ok x) so_far reads at_end gives (same, ok) =
      let now = so_far_read s t before mid after held line so_far reads in
      (now.came, now.read, at_end, all_taken s t u before after held line None now gives same)
  input_ended {T} s t u before mid after held line (Err e) r so_far reads at_end gives (same, told) =
      let now = so_far_read s t before mid after held line so_far reads in
      subst (λ x. TakesInput {T = T} hands s u before after x) (sym told) (
        now.came,
        now.read,
        subst (λ v. TakesUpTo hands s v now.came line e) (sym same) (last_refused s t before after held line e now gives),
      )
  input_ended s t u before mid after held line (Ok (Some c)) (Err end) so_far reads at_end gives (handed, ok) = absurd (false≢true ok)
  input_ended s t u before mid after held line (Ok None) (Err end) so_far reads at_end gives (same, ok) = absurd (false≢true ok)
