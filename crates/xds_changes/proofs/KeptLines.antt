-- What is held of a line, and what is made of each line of an input whose refused lines are told.
use Rattle.std.proofs.Common.{◌≡◌, ◌⊎◌, ◌<◌, ◌≤◌, ◌+◌, ◌-◌, ℕ, List, [], ◌∷◌, ◌++◌, length, take, Bool, true, false, inl, inr, Option, Some, None, IfSome, Result, Ok, Err, refl, ap, sym, ◌∙◌, subst, arith, append_assoc, append-nil}
use Rattle.std.specs.Prelude.{min}
use Rattle.std.specs.Option.{option_map}
use Rattle.std.specs.Io.KnownBytes.{Consumes, IsAtEnd, Keeps}
use Rattle.std.proofs.KnownBytes.{Consumes-nil, Consumes-trans, Consumes-kept}
use Rattle.std.proofs.lemmas.Bool.{cases_lt, lt-ltb}
use Rattle.std.proofs.lemmas.List.{length-take-le, take-append-le, take_all}
use Rattle.std.proofs.Math.Seq.{take-append-add, take-nil}
use Rattle.xds_resource.specs.declared.refusal.Refusal.{Refusal}
use Rattle.xds_resource.specs.declared.refusal.Refusal.TheVariants.{TooLong}
use Rattle.xds_script.specs.Lines.{feed, pieces}
use Rattle.xds_changes.specs.declared.change.Change.{Change}
use Rattle.xds_notes.specs.declared.fault.Fault.{Fault}
use Rattle.xds_changes.specs.declared.said_lines.Kept.{Kept}
use Rattle.xds_changes.specs.declared.said_lines.SaidLine.{SaidLine}
use Rattle.xds_changes.specs.Changes.{Written, change_in, change_of, most_line}
use Rattle.xds_changes.specs.Handing.{line_after}
use Rattle.xds_changes.specs.HeldLines.{held_of, HasHeld, IsSaid, IsSaidBy, next_line}
use Rattle.xds_changes.specs.Keeping.{HandsSaid, HandsWhat, KeepsChange, KeepsLine, KeepsLines, IsHeldOf, KeepsPiece, number_behind}
use Rattle.xds_changes.proofs.Changing.{long_line}
use Rattle.xds_changes.proofs.Handings.{pieces_more}
use Rattle.xds_changes.proofs.Takings.{pieces_behind}

-- ---- what is held of a line

again_by : (n : ℕ) (a b : List ℕ) → (length a < n) ⊎ (n ≤ length a) → take n (take n a ++ b) ≡ take n (a ++ b)
again_by n a b (inl less) = ap (λ (l : List ℕ). take n (l ++ b)) (take_all n a (omega (arith, less)))
again_by n a b (inr more) =
    let full = length-take-le n a more in
    take-append-le n (take n a) b (omega (arith, full)) ∙ take_all n (take n a) (omega (arith, full)) ∙ sym (take-append-le n a b more)

-- what is held of what was held, with more behind it
held_again : (a b : List ℕ) → held_of (held_of a ++ b) ≡ held_of (a ++ b)
held_again a b = again_by (most_line + 1) a b (cases_lt (length a) (most_line + 1))

change_by : (line : List ℕ) → (length line < most_line + 1) ⊎ (most_line + 1 ≤ length line) → change_in (held_of line) ≡ change_in line
change_by line (inl less) = ap change_in (take_all (most_line + 1) line (omega (arith, less)))
change_by line (inr more) =
    let full = length-take-le (most_line + 1) line more in
    long_line (held_of line) TooLong (lt-ltb most_line (length (held_of line)) (omega (arith, full))) refl
    ∙ sym (long_line line TooLong (lt-ltb most_line (length line) (omega (arith, more))) refl)

-- a line says what the part of it says that is held
pub change_held : (line : List ℕ) → change_in (held_of line) ≡ change_in line
change_held line = change_by line (cases_lt (length line) (most_line + 1))

-- a part more was held
held_by : (old : List ℕ) (was : Bool) (part new : List ℕ) (lost : Bool) (came : List ℕ) → (was ≡ true) ⊎ (old ≡ held_of came) → HasHeld old was part new lost
    → (lost ≡ true) ⊎ (new ≡ held_of (came ++ part))
held_by old true part new lost came before has = inl has.0
held_by old false part new lost came (inl was) has = absurd cc
held_by old false part new lost came (inr is) (inl memory) = inl memory
held_by old false part new lost came (inr is) (inr has) = inr (has.1 ∙ ap (λ (l : List ℕ). held_of (l ++ part)) is ∙ held_again came part)

least : (m : ℕ) (part : List ℕ) → (m < length part) ⊎ (length part ≤ m) → take (min (length part) m) part ≡ take m part
least m part (inl less) = ap (λ k. take k part) (omega (arith, less))
least m part (inr more) =
    let all : min (length part) m ≡ length part = omega (arith, more) in
    ap (λ k. take k part) all ∙ take_all (length part) part (omega arith) ∙ sym (take_all m part more)

-- behind what is held, as much as there is room for
pub held_room : (old part : List ℕ) → length old ≤ most_line + 1 → old ++ take (min (length part) (most_line + 1 - length old)) part ≡ held_of (old ++ part)
held_room old part short =
    let whole : length old + (most_line + 1 - length old) ≡ most_line + 1 = omega (arith, short) in
    ap (λ (l : List ℕ). old ++ l) (least (most_line + 1 - length old) part (cases_lt (most_line + 1 - length old) (length part)))
    ∙ sym (take-append-add old part (most_line + 1 - length old)) ∙ ap (λ k. take k (old ++ part)) whole

-- so it is held where no memory lacks
pub held_more : (old part new : List ℕ) (was : Bool) (room count : ℕ) → was ≡ false → length old ≤ most_line + 1 → room ≡ most_line + 1 - length old → count ≡ min (length part) room
    → new ≡ old ++ take count part → HasHeld old was part new was
held_more old part new true room count kept short room_is count_is is = absurd cc
held_more old part new false room count kept short room_is count_is is =
    let fits : count ≡ min (length part) (most_line + 1 - length old) = count_is ∙ ap (min (length part)) room_is in
    inr (refl, is ∙ ap (λ k. old ++ take k part) fits ∙ held_room old part short)

-- ---- the numbers of lines

behind_both : (number : ℕ) (lines more : List (List ℕ)) → number_behind number (lines ++ more) ≡ number_behind (number_behind number lines) more
behind_both number [] more = refl
behind_both number (line ∷ lines) more = behind_both (line_after number 1) lines more

-- ---- what is made of lines

-- what a line says that was read
pub said_read : (o : Option Change) (line : List ℕ) (number : ℕ) → change_in line ≡ Ok (option_map change_of o) → IfSome o (λ c. c.line ≡ number) → IsSaidBy line number (Ok o)
said_read None line number is same = is
said_read (Some c) line number is same = (is, same)

module _ {S : Type 0} (hands : S → S → Written → Type 0) (refuses : S → S → ℕ → Refusal → Type 0) where
  said_what : (s t : S) (number : ℕ) (bytes line : List ℕ) (what : Result (Option Change) Fault) → change_in bytes ≡ change_in line → IsSaidBy bytes number what
      → HandsWhat hands refuses s t number what → KeepsLine hands refuses s t number line
  said_what s t number bytes line (Ok None) same said handed = inl (subst (KeepsChange hands refuses s t number) (sym said ∙ same) handed)
  said_what s t number bytes line (Ok (Some c)) same said handed = inl (subst (KeepsChange hands refuses s t number) (sym said.0 ∙ same) handed)
  said_what s t number bytes line (Err f) same (inl memory, why) handed = inr (subst (refuses s t number) memory handed)
  said_what s t number bytes line (Err f) same (inr is, why) handed = inl (subst (KeepsChange hands refuses s t number) (sym is ∙ same) handed)

  said_by : (s t : S) (number : ℕ) (bytes line : List ℕ) (lost : Bool) (said : SaidLine) → (lost ≡ true) ⊎ (bytes ≡ held_of line) → IsSaid bytes lost number said
      → HandsSaid hands refuses s t said → KeepsLine hands refuses s t number line
  said_by s t number bytes line true said held is handed =
      let told = subst (λ n. HandsWhat hands refuses s t n said.what) is.0 handed in
      inr (subst (HandsWhat hands refuses s t number) is.1 told)
  said_by s t number bytes line false said (inl lost) is handed = absurd cc
  said_by s t number bytes line false said (inr held) is handed =
      said_what s t number bytes line said.what (ap change_in held ∙ change_held line) is.1 (subst (λ n. HandsWhat hands refuses s t n said.what) is.0 handed)

  -- lines behind lines
  lines_both : (s t u : S) (number : ℕ) (lines more : List (List ℕ)) → KeepsLines hands refuses s t number lines → KeepsLines hands refuses t u (number_behind number lines) more
      → KeepsLines hands refuses s u number (lines ++ more)
  lines_both s t u number [] more same other = subst (λ x. KeepsLines hands refuses x u number more) same other
  lines_both s t u number (line ∷ lines) more (v, first, rest) other = (v, first, lines_both v t u (line_after number 1) lines more rest other)

  -- How far a piece was taken behind what had come of a line: these lines have ended, and this is held of the next.
  pub record KeptTo (s t : S) (first : ℕ) (now : Kept) (bytes rest : List ℕ) : Type 0 where
    pub ended : List (List ℕ)
    pub left : List ℕ
    pub bytes_are : pieces feed bytes ≡ ended ++ pieces feed (left ++ rest)
    pub held : IsHeldOf left now
    pub line_is : now.line ≡ number_behind first ended
    pub kept : KeepsLines hands refuses s t first ended

  abbrev pub IsKeptTo : S → S → Kept → Kept → List ℕ → List ℕ → Type 0
  IsKeptTo s t old now piece rest = (came : List ℕ) → IsHeldOf came old → KeptTo s t old.line now (came ++ piece) rest

  pub kept_none : (s : S) (old : Kept) (piece : List ℕ) → IsKeptTo s s old old piece piece
  kept_none s old piece came held = record { ended = []; left = came; bytes_are = refl; held = held; line_is = refl; kept = refl }

  -- a line has ended
  pub kept_more : (s t u : S) (old now mid new : Kept) (piece rest part next : List ℕ) (said : SaidLine) → IsKeptTo s t old now piece rest
      → pieces feed rest ≡ part ∷ pieces feed next → HasHeld now.bytes.items now.is_lost part mid.bytes.items mid.is_lost → mid.line ≡ now.line
      → IsSaid mid.bytes.items mid.is_lost mid.line said → new.bytes.items ≡ [] → new.line ≡ next_line mid.line → HandsSaid hands refuses t u said
      → IsKeptTo s u old new piece next
  kept_more s t u old now mid new piece rest part next said so_far split has same is none further handed came held =
      let at = so_far came held in
      let numbered = same ∙ at.line_is in
      let line = said_by t u mid.line mid.bytes.items (at.left ++ part) mid.is_lost said (held_by now.bytes.items now.is_lost part mid.bytes.items mid.is_lost at.left at.held.1 has) is handed in
      record {
        ended = at.ended ++ (at.left ++ part) ∷ [];
        left = [];
        bytes_are = at.bytes_are ∙ ap (λ (ps : List (List ℕ)). at.ended ++ ps) (pieces_behind feed at.left rest part (pieces feed next) at.held.0 split)
            ∙ sym (append_assoc at.ended ((at.left ++ part) ∷ []) (pieces feed next));
        held = (refl, inr (none ∙ sym (take-nil (most_line + 1))));
        line_is = further ∙ ap (λ n. line_after n 1) numbered ∙ sym (behind_both old.line at.ended ((at.left ++ part) ∷ []));
        kept = lines_both s t u old.line at.ended ((at.left ++ part) ∷ []) at.kept
            (u, subst (λ n. KeepsLine hands refuses t u n (at.left ++ part)) numbered line, refl);
      }

  -- what is left of the piece is held
  pub kept_all : (s t : S) (old now new : Kept) (piece rest : List ℕ) → IsKeptTo s t old now piece rest → pieces feed rest ≡ rest ∷ []
      → HasHeld now.bytes.items now.is_lost rest new.bytes.items new.is_lost → new.line ≡ now.line → KeepsPiece hands refuses s t old new piece
  kept_all s t old now new piece rest so_far last has same came held =
      let at = so_far came held in
      let one = pieces_behind feed at.left rest rest [] at.held.0 last in (
        at.ended,
        at.left ++ rest,
        at.bytes_are ∙ ap (λ (ps : List (List ℕ)). at.ended ++ ps) one,
        (one, held_by now.bytes.items now.is_lost rest new.bytes.items new.is_lost at.left at.held.1 has),
        same ∙ at.line_is,
        at.kept,
      )

  -- ---- the input

  -- These lines have ended in the bytes so far, and this is held of the next one, whose number is known.
  pub record IsKeptSoFar (s t : S) (before after : Option (List ℕ)) (kept : Kept) : Type 0 where
    pub came : List ℕ
    pub ended : List (List ℕ)
    pub left : List ℕ
    pub read : Consumes before after came
    pub bytes_are : pieces feed came ≡ ended ++ left ∷ []
    pub held : IsHeldOf left kept
    pub line_is : kept.line ≡ number_behind 1 ended
    pub made : KeepsLines hands refuses s t 1 ended

  pub input_begun : (s : S) (before : Option (List ℕ)) (kept : Kept) → kept.bytes.items ≡ [] → kept.line ≡ 1 → IsKeptSoFar s s before before kept
  input_begun s before kept none first = record {
    came = [];
    ended = [];
    left = [];
    read = Consumes-nil before;
    bytes_are = refl;
    held = (refl, inr (none ∙ sym (take-nil (most_line + 1))));
    line_is = first;
    made = refl;
  }

  pub input_kept : (s t : S) (before mid after : Option (List ℕ)) (kept : Kept) → IsKeptSoFar s t before mid kept → Keeps mid after → IsKeptSoFar s t before after kept
  input_kept s t before mid after kept so_far keeps = record {
    came = so_far.came;
    ended = so_far.ended;
    left = so_far.left;
    read = Consumes-kept before mid after so_far.came so_far.read keeps;
    bytes_are = so_far.bytes_are;
    held = so_far.held;
    line_is = so_far.line_is;
    made = so_far.made;
  }

  -- a piece more
  pub input_more : (s t u : S) (before mid after : Option (List ℕ)) (old new : Kept) (piece : List ℕ) → IsKeptSoFar s t before mid old → Consumes mid after piece
      → KeepsPiece hands refuses t u old new piece → IsKeptSoFar s u before after new
  input_more s t u before mid after old new piece so_far reads keeps =
      let piece_kept = keeps so_far.left so_far.held in
      let ended = piece_kept.0 in
      record {
        came = so_far.came ++ piece;
        ended = so_far.ended ++ ended;
        left = piece_kept.1;
        read = Consumes-trans before mid after so_far.came piece so_far.read reads;
        bytes_are = pieces_more feed so_far.came piece so_far.ended so_far.left so_far.bytes_are ∙ ap (λ (ps : List (List ℕ)). so_far.ended ++ ps) piece_kept.2
            ∙ sym (append_assoc so_far.ended ended (piece_kept.1 ∷ []));
        held = piece_kept.3;
        line_is = piece_kept.4 ∙ ap (λ n. number_behind n ended) so_far.line_is ∙ sym (behind_both 1 so_far.ended ended);
        made = lines_both s t u 1 so_far.ended ended so_far.made (subst (λ n. KeepsLines hands refuses t u n ended) so_far.line_is piece_kept.5);
      }

  -- the input is at its end
  pub input_done : (s t u : S) (before mid after : Option (List ℕ)) (kept : Kept) (said : SaidLine) → IsKeptSoFar s t before mid kept → Consumes mid after [] → IsAtEnd after
      → IsSaid kept.bytes.items kept.is_lost kept.line said → HandsSaid hands refuses t u said
      → (came : List ℕ) × Consumes before after came × IsAtEnd after × KeepsLines hands refuses s u 1 (pieces feed came)
  input_done s t u before mid after kept said so_far reads at_end is handed =
      let line = said_by t u kept.line kept.bytes.items so_far.left kept.is_lost said so_far.held.1 is handed in (
        so_far.came,
        subst (Consumes before after) (append-nil so_far.came) (Consumes-trans before mid after so_far.came [] so_far.read reads),
        at_end,
        subst (KeepsLines hands refuses s u 1) (sym so_far.bytes_are)
            (lines_both s t u 1 so_far.ended (so_far.left ∷ []) so_far.made
            (u, subst (λ n. KeepsLine hands refuses t u n so_far.left) so_far.line_is line, refl)),
      )
