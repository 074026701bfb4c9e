-- What the table has of each name after a row was put in or taken out.
use Rattle.std.proofs.Common.{◌≡◌, ℕ, List, [], ◌∷◌, map, filter, Bool, true, false, not, Option, Some, None, refl, sym, ap, ◌∙◌}
use Rattle.std.specs.Prelude.{bytes_eq, if◌then◌else◌}
use Rattle.std.specs.declared.cmp.Ordering.{Ordering}
use Rattle.std.specs.declared.cmp.Ordering.TheVariants.{Less, Equal, Greater}
use Rattle.std.specs.Ordering.{is_lt, is_eq, match_ordering}
use Rattle.sqlite_value.specs.Keys.{plain, entry_cmp, prefix_cmp}
use Rattle.sqlite_value.specs.Order.{Row}
use Rattle.sqlite_trees.specs.Tree.{insert_entry, remove_entry, from_key}
use Rattle.xds_resource.specs.declared.types.TypeName.{TypeName}
use Rattle.xds_resource.specs.Best.{greater, if_named, best}
use Rattle.xds_resource.specs.TypedWrites.{TypedWrite, writes_of}
use Rattle.xds_resource.specs.Types.{is_same_type}
use Rattle.xds_resource.specs.Writes.{StampedWrite, write_cmp}
use Rattle.xds_resource.proofs.BestWrites.{greater-comm, greater-idem, greater-assoc}
use Rattle.xds_store.specs.Rows.{typed_in, IsRow, AreRows, best_in}
use Rattle.xds_store.proofs.RowLemmas.{rows_tied}

-- the write, if it is of the type and has the name
abbrev pub part_of : TypeName → List ℕ → TypedWrite → Option StampedWrite
part_of t name x = if is_same_type x.0 t then if_named name x.1 else None

abbrev pub part : TypeName → List ℕ → Row → Option StampedWrite
part t name r = part_of t name (typed_in r)

cons_at : (x : TypedWrite) (rest : List TypedWrite) (name : List ℕ) (b : Bool)
    → best (map (λ y. y.1) (if b then x ∷ rest else rest)) name ≡ greater (if b then if_named name x.1 else None) (best (map (λ y. y.1) rest) name)
cons_at x rest name true = refl
cons_at x rest name false = refl

pub best-writes_of : (t : TypeName) (name : List ℕ) (x : TypedWrite) (xs : List TypedWrite)
    → best (writes_of t (x ∷ xs)) name ≡ greater (part_of t name x) (best (writes_of t xs) name)
best-writes_of t name x xs = cons_at x (filter (λ y. is_same_type y.0 t) xs) name (is_same_type x.0 t)

best_in-cons : (t : TypeName) (name : List ℕ) (r : Row) (rows : List Row) → best_in t (r ∷ rows) name ≡ greater (part t name r) (best_in t rows name)
best_in-cons t name r rows = best-writes_of t name (typed_in r) (map typed_in rows)

swapped : (a b c : Option StampedWrite) → greater a (greater b c) ≡ greater b (greater a c)
swapped a b c = greater-assoc a b c ∙ ap (λ o. greater o c) (greater-comm a b) ∙ sym (greater-assoc b a c)

absorbed : (a b c : Option StampedWrite) → a ≡ b → greater b (greater a c) ≡ greater a c
absorbed a b c e = ap (λ o. greater o (greater a c)) (sym e) ∙ greater-assoc a a c ∙ ap (λ o. greater o c) (greater-idem a)

module _ (t : TypeName) (name : List ℕ) where
  best_inserted_at : (new e : Row) (es : List Row) → IsRow new → IsRow e → (o : Ordering) → entry_cmp plain e new ≡ o
      → best_in t (insert_entry plain new es) name ≡ greater (part t name new) (best_in t es name)
      → best_in t (match_ordering o (e ∷ insert_entry plain new es) (e ∷ es) (new ∷ e ∷ es)) name ≡ greater (part t name new) (best_in t (e ∷ es) name)
  best_inserted_at new e es is this Less tie more =
      best_in-cons t name e (insert_entry plain new es) ∙ ap (greater (part t name e)) more ∙ swapped (part t name e) (part t name new) (best_in t es name)
      ∙ ap (greater (part t name new)) (sym (best_in-cons t name e es))
  best_inserted_at new e es is this Equal tie more =
      best_in-cons t name e es ∙ sym (absorbed (part t name e) (part t name new) (best_in t es name) (ap (part t name) (rows_tied e new _ _ this is tie)))
      ∙ ap (greater (part t name new)) (sym (best_in-cons t name e es))
  best_inserted_at new e es is this Greater tie more = best_in-cons t name new (e ∷ es)

  -- a row that is put in counts among the others
  pub best_inserted : (new : Row) (rows : List Row) → IsRow new → AreRows rows
      → best_in t (insert_entry plain new rows) name ≡ greater (part t name new) (best_in t rows name)
  best_inserted new [] is all = best_in-cons t name new []
  best_inserted new (e ∷ es) is all = best_inserted_at new e es is all.0 (entry_cmp plain e new) refl (best_inserted new es is all.1)

  kept_on : (p : Option StampedWrite) (e : Row) (left es : List Row) → greater p (best_in t left name) ≡ greater p (best_in t es name)
      → greater p (best_in t (e ∷ left) name) ≡ greater p (best_in t (e ∷ es) name)
  kept_on p e left es more =
      ap (greater p) (best_in-cons t name e left) ∙ swapped p (part t name e) (best_in t left name) ∙ ap (greater (part t name e)) more
      ∙ swapped (part t name e) p (best_in t es name) ∙ ap (greater p) (sym (best_in-cons t name e es))

  best_removed_at : (p : Option StampedWrite) (r e : Row) (es : List Row) → IsRow r → IsRow e → greater p (part t name r) ≡ p → (o : Ordering) → entry_cmp plain e r ≡ o
      → greater p (best_in t (remove_entry plain r es) name) ≡ greater p (best_in t es name)
      → greater p (best_in t (if not (is_eq o) then e ∷ remove_entry plain r es else remove_entry plain r es) name) ≡ greater p (best_in t (e ∷ es) name)
  best_removed_at p r e es is this older Less tie more = kept_on p e (remove_entry plain r es) es more
  best_removed_at p r e es is this older Greater tie more = kept_on p e (remove_entry plain r es) es more
  best_removed_at p r e es is this older Equal tie more =
      let same : part t name e ≡ part t name r = ap (part t name) (rows_tied e r _ _ this is tie) in
      more ∙ ap (λ o. greater o (best_in t es name)) (sym older ∙ ap (greater p) (sym same)) ∙ sym (greater-assoc p (part t name e) (best_in t es name))
      ∙ ap (greater p) (sym (best_in-cons t name e es))

  -- a row that is taken out counts for nothing beside a greater write
  pub best_removed : (p : Option StampedWrite) (r : Row) (rows : List Row) → IsRow r → AreRows rows → greater p (part t name r) ≡ p
      → greater p (best_in t (remove_entry plain r rows) name) ≡ greater p (best_in t rows name)
  best_removed p r [] is all older = refl
  best_removed p r (e ∷ es) is all older = best_removed_at p r e es is all.0 older (entry_cmp plain e r) refl (best_removed p r es is all.1 older)

  found_at : (key r e : Row) (left es : List Row) (b : Bool) → (if b then from_key plain key es else e ∷ es) ≡ r ∷ left
      → (from_key plain key es ≡ r ∷ left → greater (part t name r) (best_in t es name) ≡ best_in t es name)
      → greater (part t name r) (best_in t (e ∷ es) name) ≡ best_in t (e ∷ es) name
  found_at key r e left es true is more =
      ap (greater (part t name r)) (best_in-cons t name e es) ∙ swapped (part t name r) (part t name e) (best_in t es name)
      ∙ ap (greater (part t name e)) (more is) ∙ sym (best_in-cons t name e es)
  found_at key r e left es false is more =
      let same : e ≡ r = cc in
      ap (greater (part t name r)) (best_in-cons t name e es) ∙ absorbed (part t name e) (part t name r) (best_in t es name) (ap (part t name) same)
      ∙ sym (best_in-cons t name e es)

  -- a row that was found counts among the others
  pub best_found : (key r : Row) (left rows : List Row) → from_key plain key rows ≡ r ∷ left → greater (part t name r) (best_in t rows name) ≡ best_in t rows name
  best_found key r left [] is = absurd cc
  best_found key r left (e ∷ es) is = found_at key r e left es (is_lt (prefix_cmp plain e key)) is (best_found key r left es)

names_same : (v w : StampedWrite) (name : List ℕ) → v.name ≡ w.name → bytes_eq v.name name ≡ bytes_eq w.name name
names_same v w name e = ap (λ n. bytes_eq n name) e

older_at : (v w : StampedWrite) (a b : Bool) → a ≡ b → is_lt (write_cmp v w) ≡ true → greater (if b then Some w else None) (if a then Some v else None) ≡ (if b then Some w else None)
older_at v w true true e less = ap (λ c. Some (if c then w else v)) less
older_at v w false false e less = refl
older_at v w true false e less = absurd cc
older_at v w false true e less = absurd cc

newer_at : (v w : StampedWrite) (a b : Bool) → a ≡ b → is_lt (write_cmp v w) ≡ false → greater (if b then Some w else None) (if a then Some v else None) ≡ (if a then Some v else None)
newer_at v w true true e less = ap (λ c. Some (if c then w else v)) less
newer_at v w false false e less = refl
newer_at v w true false e less = absurd cc
newer_at v w false true e less = absurd cc

typed_at : (a b c : Option StampedWrite) (typed : Bool) → greater a b ≡ c → greater (if typed then a else None) (if typed then b else None) ≡ (if typed then c else None)
typed_at a b c true e = e
typed_at a b c false e = refl

-- of two writes of one name the older counts for nothing
pub older : (s t : TypeName) (name : List ℕ) (v w : StampedWrite) → v.name ≡ w.name → is_lt (write_cmp v w) ≡ true
    → greater (part_of t name (s, w)) (part_of t name (s, v)) ≡ part_of t name (s, w)
older s t name v w same less = typed_at _ _ _ (is_same_type s t) (older_at v w _ _ (names_same v w name same) less)

pub newer : (s t : TypeName) (name : List ℕ) (v w : StampedWrite) → v.name ≡ w.name → is_lt (write_cmp v w) ≡ false
    → greater (part_of t name (s, w)) (part_of t name (s, v)) ≡ part_of t name (s, v)
newer s t name v w same less = typed_at _ _ _ (is_same_type s t) (newer_at v w _ _ (names_same v w name same) less)
