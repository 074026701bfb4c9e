-- How far an input was read: the lines so far are writes, and the catalogues hold what those writes leave.
use Rattle.std.proofs.Common.{◌≡◌, ◌<◌, ◌≤◌, ◌+◌, ◌-◌, inl, inr, ℕ, List, [], ◌∷◌, ◌++◌, length, take, drop, take-append-drop, Bool, true, false, cond, refl, ap, sym, ◌∙◌, subst, arith, append_assoc, append-nil, length-append, length-drop}
use Rattle.std.specs.Prelude.{map, slice_index, ◌==◌}
use Rattle.std.proofs.lemmas.List.{map-append}
use Rattle.std.proofs.lemmas.List.Splits.{length-slice_split, join_with_byte-slice_split}
use Rattle.std.proofs.Math.Seq.{drop-append_seam, take-append_seam}
use Rattle.std.proofs.lemmas.List.{take_all}
use Rattle.std.specs.List.{join_with_byte}
use Rattle.std.proofs.lemmas.List.Elements.{filter-append}
use Rattle.std.specs.List.{filter}
use Rattle.std.specs.FinMap as finmap
use Rattle.xds_resource.specs.declared.types.TypeName.{TypeName}
use Rattle.xds_resource.specs.declared.refusal.Refusal.{Refusal}
use Rattle.xds_resource.specs.declared.refusal.Refusal.TheVariants.{OutOfMemory}
use Rattle.xds_resource.specs.Types.{is_same_type}
use Rattle.xds_resource.specs.Writes.{StampedWrite}
use Rattle.xds_resource.specs.TypedWrites.{TypedWrite, writes_of}
use Rattle.xds_resource.specs.PerType.{PerType, at, with_at, each}
use Rattle.xds_resource.proofs.TypesApart.{same_type, at-with_at, at-with_at_other, at-each}
use Rattle.xds_resource.proofs.BoolsAndLists.{shorter_if}
use Rattle.xds_catalogue.specs.Holdings.{Holdings, nothing_held, IsCatalogue}
use Rattle.xds_catalogue.specs.Joins.{joined}
use Rattle.xds_catalogue.proofs.Catalogues.{catalogue_of-IsCatalogue}
use Rattle.xds_catalogue.proofs.Joining.{joined_again}
use Rattle.xds_catalogue.proofs.OneWrite.{joined-nothing}
use Rattle.xds_message.specs.Messages.{Request}
use Rattle.xds_script.specs.Lines.{feed, pieces, without_last_feed}
use Rattle.xds_program.specs.Answers.{held_of, response_by, answer_text}
use Rattle.xds_causes.specs.WriteLines.{AreWriteLines, IsWriteLine}
use Rattle.xds_causes.proofs.WriteLines.{AreWriteLines-push}
use Rattle.xds_program.specs.Faults.{IsRequestLine, RefusesWrite, RefusesRequest, IsAnswer, IsFault}
use Rattle.xds_program.specs.Gathered.{IsReadTo, IsGathered, WhereReadTo}
use Rattle.xds_program.proofs.Responding.{response_by-same}

-- ---- lists that grow by one

one_if : (b : Bool) (x : TypedWrite) → map (λ (y : TypedWrite). y.1) (cond b (x ∷ []) []) ≡ cond b (x.1 ∷ []) []
one_if true x = refl
one_if false x = refl

-- one write more is one of its own type more
pub writes_of-push : (t : TypeName) (xs : List TypedWrite) (x : TypedWrite) → writes_of t (xs ++ x ∷ []) ≡ writes_of t xs ++ cond (is_same_type x.0 t) (x.1 ∷ []) []
writes_of-push t xs x =
    ap (map (λ (y : TypedWrite). y.1)) (filter-append (λ (y : TypedWrite). is_same_type y.0 t) xs (x ∷ []))
    ∙ map-append (λ (y : TypedWrite). y.1) (filter (λ (y : TypedWrite). is_same_type y.0 t) xs) (filter (λ (y : TypedWrite). is_same_type y.0 t) (x ∷ []))
    ∙ ap (λ (r : List StampedWrite). writes_of t xs ++ r) (one_if (is_same_type x.0 t) x)

held_of-same : (xs : List TypedWrite) (x : TypedWrite) (t : TypeName) → is_same_type x.0 t ≡ true → joined (held_of xs t) (x.1 ∷ []) ≡ held_of (xs ++ x ∷ []) t
held_of-same xs x t same =
    joined_again nothing_held (writes_of t xs) (x.1 ∷ [])
    ∙ ap (joined nothing_held) (sym (writes_of-push t xs x ∙ ap (λ b. writes_of t xs ++ cond b (x.1 ∷ []) []) same))

held_of-other : (xs : List TypedWrite) (x : TypedWrite) (t : TypeName) → is_same_type x.0 t ≡ false → held_of xs t ≡ held_of (xs ++ x ∷ []) t
held_of-other xs x t other =
    ap (joined nothing_held) (sym (writes_of-push t xs x ∙ ap (λ b. writes_of t xs ++ cond b (x.1 ∷ []) []) other ∙ append-nil (writes_of t xs)))

-- what is held after one write more
pub held_of-push : (p : PerType Holdings) (xs : List TypedWrite) (x : TypedWrite) → ((t : TypeName) → at p t ≡ held_of xs t) → (t : TypeName)
    → at (with_at p x.0 (joined (at p x.0) (x.1 ∷ []))) t ≡ held_of (xs ++ x ∷ []) t
held_of-push p xs x agree t =
    elim (same_type x.0 t) [
      | inl h ↦
          ap (λ s. at (with_at p x.0 (joined (at p x.0) (x.1 ∷ []))) s) (sym h.0) ∙ at-with_at p x.0 (joined (at p x.0) (x.1 ∷ []))
          ∙ ap (λ s. joined (at p s) (x.1 ∷ [])) h.0 ∙ ap (λ (k : Holdings). joined k (x.1 ∷ [])) (agree t) ∙ held_of-same xs x t h.1
      | inr h ↦ at-with_at_other p x.0 (joined (at p x.0) (x.1 ∷ [])) t (λ e. h.0 (sym e)) ∙ agree t ∙ held_of-other xs x t h.1
    ]

-- ---- how far an input was read

pub read_none : (input : List ℕ) (p : PerType Holdings) → ((t : TypeName) → at p t ≡ nothing_held) → IsReadTo input (without_last_feed input) 1 (at p)
read_none input p empty = record {
  before = [];
  writes = [];
  lines_are = refl;
  writes_are = tt;
  held_are = λ t. empty t ∙ sym joined-nothing;
  number_is = refl;
  short = omega (arith, shorter_if (slice_index input (length input - 1) == feed) (length input - 1) input);
}

pub read_more : (input rest next bytes : List ℕ) (line : ℕ) (p : PerType Holdings) (x : TypedWrite) → IsReadTo input rest line (at p) → pieces feed rest ≡ bytes ∷ pieces feed next → length next < length rest
    → IsWriteLine bytes x → IsReadTo input next (line + 1) (at (with_at p x.0 (joined (at p x.0) (x.1 ∷ []))))
read_more input rest next bytes line p x r split shorter is = record {
  before = r.before ++ bytes ∷ [];
  writes = r.writes ++ x ∷ [];
  lines_are = r.lines_are ∙ ap (λ (ps : List (List ℕ)). r.before ++ ps) split ∙ sym (append_assoc r.before (bytes ∷ []) (pieces feed next));
  writes_are = AreWriteLines-push r.before r.writes bytes x r.writes_are is;
  held_are = held_of-push p r.writes x r.held_are;
  number_is = omega (arith, r.number_is, length-append r.before (bytes ∷ []));
  short = omega (arith, r.short, shorter, length-append r.before (bytes ∷ []));
}

-- what is held once writes came has each of them under its own name
pub held_named : (input rest : List ℕ) (line : ℕ) (held : TypeName → Holdings) → IsReadTo input rest line held → (t : TypeName) → IsCatalogue (held t).entries
held_named input rest line held r t =
    subst (λ (h : Holdings). IsCatalogue h.entries) (sym (r.held_are t)) (catalogue_of-IsCatalogue (finmap.values nothing_held.entries ++ writes_of t r.writes))

pub read_all : (replica : ℕ) (input rest output : List ℕ) (line : ℕ) (p : PerType Holdings) (m : Request) → IsReadTo input rest line (at p) → pieces feed rest ≡ rest ∷ [] → IsRequestLine rest m
    → output ≡ answer_text (response_by replica (at p) m) → IsAnswer replica input output
read_all replica input rest output line p m r last is told = record {
  write_lines = r.before;
  request_line = rest;
  writes = r.writes;
  request = m;
  lines_are = r.lines_are ∙ ap (λ (ps : List (List ℕ)). r.before ++ ps) last;
  writes_are = r.writes_are;
  request_is = is;
  output_is = told ∙ ap answer_text (response_by-same replica (at p) (held_of r.writes) m r.held_are);
}

-- ---- and where it stopped

some_piece : (ps : List (List ℕ)) → 0 < length ps → (first : List ℕ) × (more : List (List ℕ)) × (ps ≡ first ∷ more)
some_piece [] h = absurd (omega (arith, h))
some_piece (first ∷ more) h = (first, more, refl)

-- there is always a piece
pieces-cons : (bs : List ℕ) → (first : List ℕ) × (more : List (List ℕ)) × (pieces feed bs ≡ first ∷ more)
pieces-cons bs = some_piece (pieces feed bs) (omega (arith, length-slice_split (λ b. b == feed) bs))

pub read_bad_write : (input rest next bytes : List ℕ) (line : ℕ) (p : PerType Holdings) (e : Refusal) → IsReadTo input rest line (at p) → pieces feed rest ≡ bytes ∷ pieces feed next
    → RefusesWrite (at p) bytes e → IsFault input line e
read_bad_write input rest next bytes line p e r split refused =
    let more = pieces-cons next in
    let same : at p ≡ held_of r.writes = λ i t. r.held_are t i in
    record {
      before = r.before;
      at_fault = bytes;
      after = more.0 ∷ more.1;
      writes = r.writes;
      lines_are = r.lines_are ∙ ap (λ (ps : List (List ℕ)). r.before ++ ps) (split ∙ ap (λ (ps : List (List ℕ)). bytes ∷ ps) more.2);
      number_is = r.number_is;
      writes_are = r.writes_are;
      refused = subst (λ h. RefusesWrite h bytes e) same refused;
    }

pub read_bad_request : (input rest : List ℕ) (line : ℕ) (p : PerType Holdings) (e : Refusal) → IsReadTo input rest line (at p) → pieces feed rest ≡ rest ∷ [] → RefusesRequest rest e → IsFault input line e
read_bad_request input rest line p e r last refused = record {
  before = r.before;
  at_fault = rest;
  after = [];
  writes = r.writes;
  lines_are = r.lines_are ∙ ap (λ (ps : List (List ℕ)). r.before ++ ps) last;
  number_is = r.number_is;
  writes_are = r.writes_are;
  refused = refused;
}

-- ---- lines that are taken from what is left

-- what follows the first line stands behind it and its line feed
line_cut : (left next bytes : List ℕ) → pieces feed left ≡ bytes ∷ pieces feed next → left ≡ (bytes ++ feed ∷ []) ++ next
line_cut left next bytes split =
    let more = pieces-cons next in
    sym (join_with_byte-slice_split feed left)
    ∙ ap (join_with_byte feed) (split ∙ ap (λ (ps : List (List ℕ)). bytes ∷ ps) more.2)
    ∙ ap (λ (l : List ℕ). bytes ++ feed ∷ l) (ap (join_with_byte feed) (sym more.2) ∙ join_with_byte-slice_split feed next)
    ∙ sym (append_assoc bytes (feed ∷ []) next)

-- some lines were taken from the front of what was left
pub record AreTaken (rest left : List ℕ) (first line : ℕ) (before held : PerType Holdings) : Type 0 where
  pub front : List ℕ
  pub rest_is : rest ≡ front ++ left
  pub fewer : line + length left ≤ first + length rest
  pub goes_on : WhereReadTo rest first (at before) (λ input. IsReadTo input left line (at held))

pub taken_none : (rest : List ℕ) (line : ℕ) (p : PerType Holdings) → AreTaken rest rest line line p p
taken_none rest line p = record { front = []; rest_is = refl; fewer = omega arith; goes_on = λ input r. r }

pub taken_more : (rest left next bytes : List ℕ) (first line : ℕ) (before held after : PerType Holdings) (x : TypedWrite) → AreTaken rest left first line before held
    → pieces feed left ≡ bytes ∷ pieces feed next → length next < length left → IsWriteLine bytes x → after ≡ with_at held x.0 (joined (at held x.0) (x.1 ∷ []))
    → AreTaken rest next first (line + 1) before after
taken_more rest left next bytes first line before held after x t split shorter is leaves = record {
  front = t.front ++ (bytes ++ feed ∷ []);
  rest_is = t.rest_is ∙ ap (λ (l : List ℕ). t.front ++ l) (line_cut left next bytes split) ∙ sym (append_assoc t.front (bytes ++ feed ∷ []) next);
  fewer = omega (arith, t.fewer, shorter);
  goes_on = λ input r.
      subst (λ (p : PerType Holdings). IsReadTo input next (line + 1) (at p)) (sym leaves) (read_more input left next bytes line held x (t.goes_on input r) split shorter is);
}

-- so many bytes were taken
pub taken_left : (rest left : List ℕ) (first line : ℕ) (before held : PerType Holdings) → AreTaken rest left first line before held → drop (length rest - length left) rest ≡ left
taken_left rest left first line before held t =
    let count : length rest - length left ≡ length t.front = omega (arith, ap (λ (l : List ℕ). length l) t.rest_is, length-append t.front left) in
    ap (λ n. drop n rest) count ∙ ap (drop (length t.front)) t.rest_is ∙ drop-append_seam t.front left

-- what stands behind so many bytes, as two looks at the same show it
pub behind_again : (rest one two : List ℕ) (n : ℕ) → one ≡ rest → two ≡ rest → drop n one ≡ take (length two - n) (drop n two)
behind_again rest one two n first second = ap (drop n) (first ∙ sym second) ∙ sym (take_all (length two - n) (drop n two) (omega (arith, length-drop n two)))

-- ---- what was gathered

pub gathered : (input rest : List ℕ) (line : ℕ) (p : PerType Holdings) (m : Request) → IsReadTo input rest line (at p) → pieces feed rest ≡ rest ∷ [] → IsRequestLine rest m → IsGathered input line (at p) m
gathered input rest line p m r last is = record {
  named = held_named input rest line (at p) r;
  answers = λ replica output told. read_all replica input rest output line p m r last is told;
  fails = read_bad_request input rest line p OutOfMemory r last tt;
}

-- nothing was read
pub begun : (input rest : List ℕ) (line : ℕ) (p : PerType Holdings) → rest ≡ without_last_feed input → line ≡ 1 → p ≡ each nothing_held → IsReadTo input rest line (at p)
begun input rest line p all first empty =
    let of_none : (t : TypeName) → at p t ≡ nothing_held = λ t. ap (λ (q : PerType Holdings). at q t) empty ∙ at-each nothing_held t in
    subst (λ l. IsReadTo input l line (at p)) (sym all) (subst (λ n. IsReadTo input (without_last_feed input) n (at p)) (sym first) (read_none input p of_none))

-- as many bytes as there are without the last line feed
pub without_feed : (bytes : List ℕ) → take (length (without_last_feed bytes)) bytes ≡ without_last_feed bytes
without_feed bytes = taken_if (slice_index bytes (length bytes - 1) == feed) (length bytes - 1) bytes
  where
    taken_if : (b : Bool) (n : ℕ) (bs : List ℕ) → take (length (cond b (take n bs) bs)) bs ≡ cond b (take n bs) bs
    taken_if true n bs = ap (λ (l : List ℕ). take (length (take n bs)) l) (sym (take-append-drop n bs)) ∙ take-append_seam (take n bs) (drop n bs)
    taken_if false n bs = take_all (length bs) bs (omega arith)

-- at the line at which memory was lacking
pub no_memory_at : (input : List ℕ) (line number : ℕ) (e : Refusal) → IsFault input line OutOfMemory → number ≡ line → e ≡ OutOfMemory → IsFault input number e
no_memory_at input line number e h same is = subst (λ n. IsFault input n e) (sym same) (subst (λ r. IsFault input line r) (sym is) h)
