-- How far the lines of a body were read as writes, and the lines of writes that are left to make.
use Rattle.std.proofs.Common.{◌≡◌, ◌<◌, ◌≤◌, ◌+◌, ◌-◌, arith, ℕ, zero, suc, List, [], ◌∷◌, ◌++◌, length, get_or, drop, true, false, cond, refl, ap, sym, ◌∙◌, subst, append_assoc, length-append}
use Rattle.std.specs.Prelude.{slice_index, ◌==◌}
use Rattle.xds_resource.specs.declared.types.TypeName.{TypeName}
use Rattle.xds_resource.specs.declared.refusal.Refusal.{Refusal}
use Rattle.xds_resource.specs.PerType.{PerType, at, with_at, each}
use Rattle.xds_resource.specs.TypedWrites.{TypedWrite}
use Rattle.xds_resource.specs.Writes.{StampedWrite}
use Rattle.xds_resource.proofs.BoolsAndLists.{shorter_if}
use Rattle.xds_message.specs.Batches.{by_type}
use Rattle.xds_message.proofs.BatchLemmas.{by_type-push}
use Rattle.xds_script.specs.Lines.{feed, pieces, without_last_feed, lines}
use Rattle.xds_causes.specs.WriteLines.{AreWriteLines, IsWriteLine}
use Rattle.xds_causes.proofs.WriteLines.{AreWriteLines-push}
use Rattle.xds_changes.specs.WriteLines.{AreWritesIn, IsBadLine, RefusesWriteLine, lines_in, line_of, lines_of, behind, left_of}

abbrev Batches : Type 0
Batches = PerType (List StampedWrite)

-- all lines before what is left spell writes, which come to a batch
pub record IsReadInto (body left : List ℕ) (line : ℕ) (batch : PerType (List StampedWrite)) : Type 0 where
  pub before : List (List ℕ)
  pub writes : List TypedWrite
  pub lines_are : lines_in body ≡ before ++ pieces feed left
  pub number_is : line ≡ length before + 1
  pub writes_are : AreWriteLines before writes
  pub batch_is : by_type writes ≡ batch
  pub fewer : length before + length left ≤ length body

pub read_none : (body : List ℕ) (b : Batches) → (length body == 0) ≡ false → b ≡ each [] → IsReadInto body (without_last_feed body) 1 b
read_none body b some empty = record {
  before = [];
  writes = [];
  lines_are = ap (λ t. cond t [] (lines body)) some;
  number_is = refl;
  writes_are = tt;
  batch_is = sym empty;
  fewer = omega (arith, shorter_if (slice_index body (length body - 1) == feed) (length body - 1) body);
}

joined_one : (b c after : Batches) (x : TypedWrite) → b ≡ c → after ≡ with_at c x.0 (at c x.0 ++ x.1 ∷ []) → with_at b x.0 (at b x.0 ++ x.1 ∷ []) ≡ after
joined_one b c after x e leaves = ap (λ (p : Batches). with_at p x.0 (at p x.0 ++ x.1 ∷ [])) e ∙ sym leaves

pub read_more : (body left next bytes : List ℕ) (line : ℕ) (b after : Batches) (x : TypedWrite) → IsReadInto body left line b
    → pieces feed left ≡ bytes ∷ pieces feed next → length next < length left → IsWriteLine bytes x → after ≡ with_at b x.0 (at b x.0 ++ x.1 ∷ [])
    → IsReadInto body next (line + 1) after
read_more body left next bytes line b after x r split shorter is leaves = record {
  before = r.before ++ bytes ∷ [];
  writes = r.writes ++ x ∷ [];
  lines_are = r.lines_are ∙ ap (λ (l : List (List ℕ)). r.before ++ l) split ∙ sym (append_assoc r.before (bytes ∷ []) (pieces feed next));
  number_is = omega (arith, r.number_is, length-append r.before (bytes ∷ []));
  writes_are = AreWriteLines-push r.before r.writes bytes x r.writes_are is;
  batch_is = by_type-push r.writes x.0 x.1 ∙ joined_one (by_type r.writes) b after x r.batch_is leaves;
  fewer = omega (arith, r.fewer, shorter, length-append r.before (bytes ∷ []));
}

pub read_all : (body left : List ℕ) (line : ℕ) (b after : Batches) (x : TypedWrite) → IsReadInto body left line b → pieces feed left ≡ left ∷ []
    → IsWriteLine left x → after ≡ with_at b x.0 (at b x.0 ++ x.1 ∷ []) → AreWritesIn body after
read_all body left line b after x r last is leaves = record {
  writes = r.writes ++ x ∷ [];
  spelled =
      subst (λ (ls : List (List ℕ)). AreWriteLines ls (r.writes ++ x ∷ [])) (sym (r.lines_are ∙ ap (λ (l : List (List ℕ)). r.before ++ l) last))
      (AreWriteLines-push r.before r.writes left x r.writes_are is);
  batch_is = by_type-push r.writes x.0 x.1 ∙ joined_one (by_type r.writes) b after x r.batch_is leaves;
}

pub bad_line : (body left bytes : List ℕ) (rest : List (List ℕ)) (line : ℕ) (b : Batches) (e : Refusal) → IsReadInto body left line b
    → pieces feed left ≡ bytes ∷ rest → RefusesWriteLine bytes e → IsBadLine body line e
bad_line body left bytes rest line b e r split refused = record {
  before = r.before;
  at_fault = bytes;
  after = rest;
  writes = r.writes;
  lines_are = r.lines_are ∙ ap (λ (l : List (List ℕ)). r.before ++ l) split;
  number_is = r.number_is;
  writes_are = r.writes_are;
  refused = refused;
}

-- no byte is no line
pub read_nothing : (body : List ℕ) (b : Batches) → (length body == 0) ≡ true → b ≡ each [] → AreWritesIn body b
read_nothing body b none empty = record {
  writes = [];
  spelled = subst (λ (ls : List (List ℕ)). AreWriteLines ls []) (sym (ap (λ t. cond t [] (lines body)) none)) tt;
  batch_is = sym empty;
}

-- ---- lines that are left to make

dropped_more : (ws : List StampedWrite) (i : ℕ) (d : StampedWrite) → i < length ws → drop i ws ≡ get_or ws i d ∷ drop (suc i) ws
dropped_more [] i d h = absurd (omega (arith, h))
dropped_more (w ∷ ws) zero d h = refl
dropped_more (w ∷ ws) (suc i) d h = dropped_more ws i d (omega (arith, h))

dropped : (ws : List StampedWrite) (i : ℕ) (d : StampedWrite) → i < length ws → drop i ws ≡ get_or ws i d ∷ drop (i + 1) ws
dropped ws i d h =
    let next : suc i ≡ i + 1 = omega arith in
    dropped_more ws i d h ∙ ap (λ n. get_or ws i d ∷ drop n ws) next

-- the first of them is the line of the write at its place
pub left_first : (b : Batches) (t : TypeName) (i : ℕ) (d : StampedWrite) → i < length (at b t) → left_of b t i ≡ line_of t (get_or (at b t) i d) ++ left_of b t (i + 1)
left_first b t i d h =
    ap (λ (ws : List StampedWrite). lines_of t ws ++ behind b t) (dropped (at b t) i d h)
    ∙ append_assoc (line_of t (get_or (at b t) i d)) (lines_of t (drop (i + 1) (at b t))) (behind b t)

pub line_made : (b : Batches) (t : TypeName) (i : ℕ) (d : StampedWrite) (text more : List ℕ) → i < length (at b t) → more ≡ text ++ line_of t (get_or (at b t) i d)
    → more ++ left_of b t (i + 1) ≡ text ++ left_of b t i
line_made b t i d text more h made =
    ap (λ (l : List ℕ). l ++ left_of b t (i + 1)) made ∙ append_assoc text (line_of t (get_or (at b t) i d)) (left_of b t (i + 1))
    ∙ ap (λ (l : List ℕ). text ++ l) (sym (left_first b t i d h))
