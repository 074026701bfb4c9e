-- What writes that are put make of the table: one, and one after another.
use Rattle.std.proofs.Common.{◌≡◌, ◌≢◌, ℕ, List, [], ◌∷◌, ◌++◌, true, false, Option, Some, None, refl, sym, ap, subst, ◌∙◌, ne_eqb}
use Rattle.std.specs.declared.cmp.Ordering.{Ordering}
use Rattle.std.specs.declared.cmp.Ordering.TheVariants.{Less, Equal, Greater}
use Rattle.std.specs.Ordering.{is_lt, match_ordering}
use Rattle.sqlite_value.specs.Keys.{plain, entry_cmp}
use Rattle.sqlite_value.specs.declared.value.Value.TheVariants.{Text}
use Rattle.sqlite_value.specs.Order.{Row, column, bytes}
use Rattle.sqlite_trees.specs.Tree.{Trees, with_tree, insert_entry, remove_entry, from_key}
use Rattle.sqlite_trees.proofs.ListLemmas.{all-filter}
use Rattle.xds_resource.specs.declared.types.TypeName.{TypeName}
use Rattle.xds_resource.specs.Best.{greater, best}
use Rattle.xds_resource.specs.TypedWrites.{TypedWrite, writes_of}
use Rattle.xds_resource.specs.Writes.{StampedWrite, write_cmp}
use Rattle.xds_resource.proofs.BestWrites.{greater-comm, greater-assoc}
use Rattle.xds_store.specs.Joins.{IsFound}
use Rattle.xds_store.specs.Rows.{IsRowOf, IsRow, AreRows, best_in, Puts}
use Rattle.xds_store.specs.Tables.{writes_tree}
use Rattle.xds_store.proofs.Putting.{part_of, part, best-writes_of, best_inserted, best_removed, best_found, older, newer}
use Rattle.xds_store.proofs.RowLemmas.{read_again, row_of_it}

greater-none : (o : Option StampedWrite) → greater o None ≡ o
greater-none None = refl
greater-none (Some w) = refl

-- the best of one write
best_of_one : (t : TypeName) (name : List ℕ) (x : TypedWrite) → best (writes_of t (x ∷ [])) name ≡ part_of t name x
best_of_one t name x = best-writes_of t name x [] ∙ greater-none (part_of t name x)

part_is : (t : TypeName) (name : List ℕ) (r : Row) (x : TypedWrite) → IsRowOf r x → part t name r ≡ part_of t name x
part_is t name r x is = ap (part_of t name) (read_again r x is)

-- from a write beside what the table had to what the table had beside the write
turned : (t : TypeName) (name : List ℕ) (x : TypedWrite) (now was : Option StampedWrite) → now ≡ greater (part_of t name x) was
    → now ≡ greater was (best (writes_of t (x ∷ [])) name)
turned t name x now was e = e ∙ greater-comm (part_of t name x) was ∙ ap (greater was) (sym (best_of_one t name x))

other_trees : (trees : Trees) (rows : List Row) (tree : ℕ) → tree ≢ writes_tree → with_tree trees writes_tree rows tree ≡ trees tree
other_trees trees rows tree other = rw (ne_eqb tree writes_tree other) refl

rows_inserted_at : (new e : Row) (es : List Row) → IsRow new → IsRow e → AreRows es → AreRows (insert_entry plain new es) → (o : Ordering)
    → AreRows (match_ordering o (e ∷ insert_entry plain new es) (e ∷ es) (new ∷ e ∷ es))
rows_inserted_at new e es is this all more Less = (this, more)
rows_inserted_at new e es is this all more Equal = (this, all)
rows_inserted_at new e es is this all more Greater = (is, (this, all))

rows_inserted : (new : Row) (rows : List Row) → IsRow new → AreRows rows → AreRows (insert_entry plain new rows)
rows_inserted new [] is all = (is, tt)
rows_inserted new (e ∷ es) is all = rows_inserted_at new e es is all.0 all.1 (rows_inserted new es is all.1) (entry_cmp plain e new)

-- a write whose row is put in
pub puts_added : (old : Trees) (r : Row) (x : TypedWrite) → IsRowOf r x → Puts old (with_tree old writes_tree (insert_entry plain r (old writes_tree))) (x ∷ [])
puts_added old r x is = record {
  others = other_trees old _;
  rows = λ all. rows_inserted r (old writes_tree) (row_of_it r x is) all;
  best_of_both = λ all t name. turned t name x _ _
      (best_inserted t name r (old writes_tree) (row_of_it r x is) all ∙ ap (λ p. greater p (best_in t (old writes_tree) name)) (part_is t name r x is));
}

-- a write that is no greater than what stands there
pub puts_kept : (old : Trees) (key r : Row) (left : List Row) (s : TypeName) (v w : StampedWrite) → from_key plain key (old writes_tree) ≡ r ∷ left
    → IsRowOf r (s, v) → v.name ≡ w.name → is_lt (write_cmp v w) ≡ false → Puts old old ((s, w) ∷ [])
puts_kept old key r left s v w found is named less = record {
  others = λ tree other. refl;
  rows = λ all. all;
  best_of_both = λ all t name.
      let among = best_found t name key r left (old writes_tree) found in
      let below = newer s t name v w named less in
      let p = part_is t name r (s, v) is in
      turned t name (s, w) _ _
      (sym among ∙ ap (λ o. greater o (best_in t (old writes_tree) name)) (p ∙ sym below ∙ ap (greater (part_of t name (s, w))) (sym p))
      ∙ sym (greater-assoc (part_of t name (s, w)) (part t name r) (best_in t (old writes_tree) name)) ∙ ap (greater (part_of t name (s, w))) among);
}

-- a write that takes the place of an older one
pub puts_replaced : (old : Trees) (former r : Row) (s : TypeName) (v w : StampedWrite) → IsRowOf former (s, v) → v.name ≡ w.name → is_lt (write_cmp v w) ≡ true → IsRowOf r (s, w)
    → (mid : Trees) → mid ≡ with_tree old writes_tree (remove_entry plain former (old writes_tree))
    → Puts old (with_tree mid writes_tree (insert_entry plain r (mid writes_tree))) ((s, w) ∷ [])
puts_replaced old former r s v w was named less is mid e =
    let cut : mid writes_tree ≡ remove_entry plain former (old writes_tree) = ap (λ (trees : Trees). trees writes_tree) e in
    let rest : AreRows (old writes_tree) → AreRows (mid writes_tree) = λ all. subst AreRows (sym cut) (all-filter IsRow _ (old writes_tree) all) in
    record {
      others = λ tree other. other_trees mid _ tree other ∙ ap (λ (trees : Trees). trees tree) e ∙ other_trees old _ tree other;
      rows = λ all. rows_inserted r (mid writes_tree) (row_of_it r (s, w) is) (rest all);
      best_of_both = λ all t name.
          let p = part_of t name (s, w) in
          let below : greater p (part t name former) ≡ p = ap (greater p) (part_is t name former (s, v) was) ∙ older s t name v w named less in
          turned t name (s, w) _ _
          (best_inserted t name r (mid writes_tree) (row_of_it r (s, w) is) (rest all)
          ∙ ap (λ o. greater o (best_in t (mid writes_tree) name)) (part_is t name r (s, w) is)
          ∙ ap (λ rows. greater p (best_in t rows name)) cut
          ∙ best_removed t name p former (old writes_tree) (row_of_it former (s, v) was) all below);
    }

-- nothing is put
pub puts_nothing : (old : Trees) → Puts old old []
puts_nothing old = record { others = λ tree other. refl; rows = λ all. all; best_of_both = λ all t name. sym (greater-none (best_in t (old writes_tree) name)) }

best_with : (t : TypeName) (name : List ℕ) (xs ys : List TypedWrite) → best (writes_of t (xs ++ ys)) name ≡ greater (best (writes_of t xs) name) (best (writes_of t ys) name)
best_with t name [] ys = refl
best_with t name (x ∷ xs) ys =
    best-writes_of t name x (xs ++ ys) ∙ ap (greater (part_of t name x)) (best_with t name xs ys)
    ∙ greater-assoc (part_of t name x) (best (writes_of t xs) name) (best (writes_of t ys) name)
    ∙ ap (λ o. greater o (best (writes_of t ys) name)) (sym (best-writes_of t name x xs))

-- some writes, and then others
pub puts_both : (a b c : Trees) (xs ys : List TypedWrite) → Puts a b xs → Puts b c ys → Puts a c (xs ++ ys)
puts_both a b c xs ys one two = record {
  others = λ tree other. two.others tree other ∙ one.others tree other;
  rows = λ all. two.rows (one.rows all);
  best_of_both = λ all t name.
      two.best_of_both (one.rows all) t name ∙ ap (λ o. greater o (best (writes_of t ys) name)) (one.best_of_both all t name)
      ∙ sym (greater-assoc (best_in t (a writes_tree) name) (best (writes_of t xs) name) (best (writes_of t ys) name))
      ∙ ap (greater (best_in t (a writes_tree) name)) (sym (best_with t name xs ys));
}

-- a write that is put in where none was found
pub added : (old mid new : Trees) (x : TypedWrite) → mid ≡ old → ((r : Row) × IsRowOf r x × (new ≡ with_tree mid writes_tree (insert_entry plain r (mid writes_tree)))) → Puts old new (x ∷ [])
added old mid new x same a =
    let is : new ≡ with_tree old writes_tree (insert_entry plain a.0 (old writes_tree)) = a.2 ∙ ap (λ (trees : Trees). with_tree trees writes_tree (insert_entry plain a.0 (trees writes_tree))) same in
    subst (λ (trees : Trees). Puts old trees (x ∷ [])) (sym is) (puts_added old a.0 x a.1)

named_same : (r : Row) (s : TypeName) (v w : StampedWrite) → IsRowOf r (s, v) → column r 1 ≡ Text w.name → v.name ≡ w.name
named_same r s v w is named = ap bytes (sym (ap (λ x. column x 1) is.is) ∙ named)

-- a write that is no greater than the one that was found
pub kept_by : (old new : Trees) (r : Row) (s : TypeName) (v w : StampedWrite) → new ≡ old → IsFound (old writes_tree) r → IsRowOf r (s, v) → column r 1 ≡ Text w.name → is_lt (write_cmp v w) ≡ false
    → Puts old new ((s, w) ∷ [])
kept_by old new r s v w same found is named less =
    subst (λ (trees : Trees). Puts old trees ((s, w) ∷ [])) (sym same) (puts_kept old found.key r found.later s v w found.is is (named_same r s v w is named) less)

-- a write that takes the place of the one that was found
pub replaced : (old found cut new : Trees) (r : Row) (s : TypeName) (v w : StampedWrite) → found ≡ old → cut ≡ with_tree found writes_tree (remove_entry plain r (found writes_tree)) → IsRowOf r (s, v)
    → column r 1 ≡ Text w.name → is_lt (write_cmp v w) ≡ true
    → ((row : Row) × IsRowOf row (s, w) × (new ≡ with_tree cut writes_tree (insert_entry plain row (cut writes_tree)))) → Puts old new ((s, w) ∷ [])
replaced old found cut new r s v w same is_cut is named less a =
    let e : cut ≡ with_tree old writes_tree (remove_entry plain r (old writes_tree)) = is_cut ∙ ap (λ (trees : Trees). with_tree trees writes_tree (remove_entry plain r (trees writes_tree))) same in
    subst (λ (trees : Trees). Puts old trees ((s, w) ∷ [])) (sym a.2) (puts_replaced old r a.0 s v w is (named_same r s v w is named) less a.1 cut e)
