-- How far a piece of the input was taken, and how the taking of it ends.
use Rattle.std.proofs.Common.{◌≡◌, ◌≢◌, ◌⊎◌, ◌<◌, ◌≤◌, ◌+◌, ◌==◌, ℕ, List, [], ◌∷◌, ◌++◌, length, Bool, true, false, cond, inl, inr, Err, refl, ap, sym, ◌∙◌, subst, arith, append_assoc, append-nil, length-append}
use Rattle.std.specs.List.{flat_map, onto_first}
use Rattle.std.proofs.lemmas.List.Elements.{All-nil, All-push}
use Rattle.std.proofs.lemmas.Grind.{flat_map-append}
use Rattle.xds_resource.specs.declared.refusal.Refusal.{Refusal}
use Rattle.xds_resource.specs.declared.refusal.Refusal.TheVariants.{OutOfMemory}
use Rattle.xds_resource.proofs.Refusing.{memory_or_not}
use Rattle.xds_script.specs.Lines.{feed, pieces}
use Rattle.xds_changes.specs.Changes.{Written, change_in}
use Rattle.xds_changes.specs.Inputs.{brings, is_wrong, AreTaken, AreRefused, AreEnded}

-- ---- a line that comes in two parts

one_byte : (t : Bool) (b : ℕ) → cond t ([] ∷ [] ∷ []) (onto_first b ([] ∷ [])) ≡ (b ∷ []) ∷ [] → t ≡ false
one_byte true b e = cc
one_byte false b e = refl

onto_one : (b c : ℕ) (cs : List ℕ) (ps : List (List ℕ)) → onto_first b ps ≡ (b ∷ c ∷ cs) ∷ [] → ps ≡ (c ∷ cs) ∷ []
onto_one b c cs [] e = cc
onto_one b c cs (p ∷ ps) e = cc

-- no mark stands first in a text of one piece, and what follows is one piece
more_bytes : (t : Bool) (b c : ℕ) (cs : List ℕ) (ps : List (List ℕ)) → cond t ([] ∷ ps) (onto_first b ps) ≡ (b ∷ c ∷ cs) ∷ [] → (t ≡ false) × (ps ≡ (c ∷ cs) ∷ [])
more_bytes true b c cs ps e = cc
more_bytes false b c cs ps e = (refl, onto_one b c cs ps e)

past : (t : Bool) (b : ℕ) (ps : List (List ℕ)) → t ≡ false → cond t ([] ∷ ps) (onto_first b ps) ≡ onto_first b ps
past t b ps e = ap (λ u. cond u ([] ∷ ps) (onto_first b ps)) e

-- what stands behind a text of one piece continues that piece
pub pieces_behind : (m : ℕ) (held rest part : List ℕ) (more : List (List ℕ)) → pieces m held ≡ held ∷ [] → pieces m rest ≡ part ∷ more → pieces m (held ++ rest) ≡ (held ++ part) ∷ more
pieces_behind m [] rest part more one split = split
pieces_behind m (b ∷ []) rest part more one split = past (b == m) b (pieces m rest) (one_byte (b == m) b one) ∙ ap (onto_first b) split
pieces_behind m (b ∷ c ∷ cs) rest part more one split =
    let first = more_bytes (b == m) b c cs (pieces m (c ∷ cs)) one in
    past (b == m) b (pieces m ((c ∷ cs) ++ rest)) first.0 ∙ ap (onto_first b) (pieces_behind m (c ∷ cs) rest part more first.1 split)

-- ---- so far

-- Of the bytes so many lines were taken; what is held of the next, and the rest, are left.
pub record IsTakenTo (bytes held rest : List ℕ) (changes : List Written) (count size : ℕ) : Type 0 where
  pub before : List (List ℕ)
  pub bytes_are : pieces feed bytes ≡ before ++ pieces feed (held ++ rest)
  pub taken : AreTaken before changes
  pub count_is : count ≡ length before
  pub short : count + length rest ≤ size

pub taken_none : (held piece : List ℕ) → IsTakenTo (held ++ piece) held piece [] 0 (length piece)
taken_none held piece = record { before = []; bytes_are = refl; taken = record { good = All-nil (λ l. is_wrong l ≡ false); brought_are = refl }; count_is = refl; short = omega arith }

brought_more : (before : List (List ℕ)) (line : List ℕ) (changes new : List Written) → changes ≡ flat_map brings before → new ≡ changes ++ brings line → new ≡ flat_map brings (before ++ line ∷ [])
brought_more before line changes new so_far is =
    is ∙ ap (λ (l : List Written). l ++ brings line) so_far ∙ ap (λ (l : List Written). flat_map brings before ++ l) (sym (append-nil (brings line)))
    ∙ sym (flat_map-append brings before (line ∷ []))

pub line_more : (before : List (List ℕ)) (line : List ℕ) (changes new : List Written) → AreTaken before changes → is_wrong line ≡ false → new ≡ changes ++ brings line → AreTaken (before ++ line ∷ []) new
line_more before line changes new taken good is = record {
  good = All-push (λ l. is_wrong l ≡ false) before line taken.good good;
  brought_are = brought_more before line changes new taken.brought_are is;
}

pub taken_more : (bytes held rest part next left : List ℕ) (changes new : List Written) (count size : ℕ) → IsTakenTo bytes held rest changes count size → pieces feed held ≡ held ∷ []
    → pieces feed rest ≡ part ∷ pieces feed next → length next < length rest → left ≡ [] → is_wrong (held ++ part) ≡ false → new ≡ changes ++ brings (held ++ part)
    → IsTakenTo bytes left next new (count + 1) size
taken_more bytes held rest part next left changes new count size so_far one split shorter none good is = record {
  before = so_far.before ++ (held ++ part) ∷ [];
  bytes_are = so_far.bytes_are ∙ ap (λ (ps : List (List ℕ)). so_far.before ++ ps) (pieces_behind feed held rest part (pieces feed next) one split)
      ∙ sym (append_assoc so_far.before ((held ++ part) ∷ []) (pieces feed next))
      ∙ ap (λ (l : List ℕ). (so_far.before ++ (held ++ part) ∷ []) ++ pieces feed (l ++ next)) (sym none);
  taken = line_more so_far.before (held ++ part) changes new so_far.taken good is;
  count_is = omega (arith, so_far.count_is, length-append so_far.before ((held ++ part) ∷ []));
  short = omega (arith, so_far.short, shorter);
}

-- ---- the ends

pub why_of : (e : Refusal) (line : List ℕ) → (e ≢ OutOfMemory → change_in line ≡ Err e) → (e ≡ OutOfMemory) ⊎ (change_in line ≡ Err e)
why_of e line why = elim (memory_or_not e) [ inl memory ↦ inl memory | inr other ↦ inr (why other) ]

pub taken_refused : (bytes held rest part : List ℕ) (more : List (List ℕ)) (changes new : List Written) (count size : ℕ) (e : Refusal) → IsTakenTo bytes held rest changes count size
    → pieces feed held ≡ held ∷ [] → pieces feed rest ≡ part ∷ more → new ≡ changes → (e ≢ OutOfMemory → change_in (held ++ part) ≡ Err e)
    → AreRefused (pieces feed bytes) new count e
taken_refused bytes held rest part more changes new count size e so_far one split same why = record {
  before = so_far.before;
  refused = held ++ part;
  behind = more;
  lines_are = so_far.bytes_are ∙ ap (λ (ps : List (List ℕ)). so_far.before ++ ps) (pieces_behind feed held rest part more one split);
  taken = subst (AreTaken so_far.before) (sym same) so_far.taken;
  count_is = so_far.count_is;
  why = why_of e (held ++ part) why;
}

pub taken_all : (bytes held rest left : List ℕ) (changes : List Written) (count size : ℕ) → IsTakenTo bytes held rest changes count size → pieces feed held ≡ held ∷ []
    → pieces feed rest ≡ rest ∷ [] → left ≡ held ++ rest → AreEnded bytes changes count left
taken_all bytes held rest left changes count size so_far one last is = record {
  lines = so_far.before;
  lines_are = so_far.bytes_are ∙ ap (λ (ps : List (List ℕ)). so_far.before ++ ps) (pieces_behind feed held rest rest [] one last)
      ∙ ap (λ (l : List ℕ). so_far.before ++ l ∷ []) (sym is);
  taken = so_far.taken;
  count_is = so_far.count_is;
}

-- what is held and a part without a feed are one piece
pub kept_one : (held part left : List ℕ) → pieces feed held ≡ held ∷ [] → pieces feed part ≡ part ∷ [] → left ≡ held ++ part → pieces feed left ≡ left ∷ []
kept_one held part left one last is =
    ap (pieces feed) is ∙ pieces_behind feed held part part [] one last ∙ ap (λ (l : List ℕ). l ∷ []) (sym is)

-- the same where nothing was added, for want of memory
pub kept_if : (b : Bool) (held part left : List ℕ) → pieces feed held ≡ held ∷ [] → pieces feed part ≡ part ∷ [] → left ≡ cond b (held ++ part) held → pieces feed left ≡ left ∷ []
kept_if true held part left one last is = kept_one held part left one last is
kept_if false held part left one last is = ap (pieces feed) is ∙ one ∙ ap (λ (l : List ℕ). l ∷ []) (sym is)
