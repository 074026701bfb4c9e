-- The number that stands in the table after a row was put there, and the numbers that stay taken.
use Rattle.std.proofs.Common.{◌≡◌, ℕ, ℤ, pos, ◌≤◌, List, [], ◌∷◌, filter, Result, Ok, Err, OnOk, OnErr, true, false, refl, sym, ap, ◌∙◌, arith, ne_eqb}
use Rattle.std.specs.List.{AllByRecursion}
use Rattle.std.specs.declared.cmp.Ordering.{Ordering}
use Rattle.std.specs.declared.cmp.Ordering.TheVariants.{Less, Equal, Greater}
use Rattle.std.specs.Ordering.{is_lt, is_eq, match_ordering}
use Rattle.std.proofs.lemmas.Cmp.{tied_itself}
use Rattle.sqlite_value.specs.declared.value.Value.TheVariants.{Null, Int}
use Rattle.sqlite_value.specs.Order.{Row, value_cmp}
use Rattle.sqlite_value.proofs.OrderLemmas.{value_cmp_total}
use Rattle.sqlite_trees.specs.Tree.{Trees, rowid, IsTable, has_rowid, put_row, with_tree}
use Rattle.sqlite_trees.proofs.ListLemmas.{filter_none}
use Rattle.sqlite_trees.proofs.TreeLemmas.{later_rowids}
use Rattle.xds_store.specs.Numbers.{Notes, Takes}
use Rattle.xds_store.specs.Tables.{numbers_tree, next_in, next_number}

module _ (id : ℤ) (row : Row) (is : rowid row ≡ Int id) where
  itself : has_rowid id row ≡ true
  itself = ap is_eq (ap (λ v. value_cmp v (Int id)) is ∙ tied_itself value_cmp_total (Int id))

  against : (r : Row) (o : Ordering) → value_cmp (rowid r) (rowid row) ≡ o → value_cmp (rowid r) (Int id) ≡ o
  against r o e = ap (value_cmp (rowid r)) (sym is) ∙ e

  none_later : (r : Row) (rows : List Row) (o : Ordering) → value_cmp (rowid r) (rowid row) ≡ o → is_lt o ≡ false → AllByRecursion (λ b. value_cmp (rowid r) (rowid b) ≡ Less) rows
      → filter (has_rowid id) rows ≡ []
  none_later r rows o e low above = filter_none (has_rowid id) rows (later_rowids (Int id) r rows (ap is_lt (against r o e) ∙ low) above)

  found_at : (r : Row) (rows : List Row) (o : Ordering) → value_cmp (rowid r) (rowid row) ≡ o → AllByRecursion (λ b. value_cmp (rowid r) (rowid b) ≡ Less) rows
      → filter (has_rowid id) (put_row row rows) ≡ row ∷ [] → filter (has_rowid id) (match_ordering o (r ∷ put_row row rows) (row ∷ rows) (row ∷ r ∷ rows)) ≡ row ∷ []
  found_at r rows Less e above more = rw (ap is_eq (against r Less e)) more
  found_at r rows Equal e above more = rw itself (ap (λ l. row ∷ l) (none_later r rows Equal e refl above))
  found_at r rows Greater e above more = rw (itself, ap is_eq (against r Greater e)) (ap (λ l. row ∷ l) (none_later r rows Greater e refl above))

  -- the row that was put is the one that has its rowid
  pub put_found : (rows : List Row) → IsTable rows → filter (has_rowid id) (put_row row rows) ≡ row ∷ []
  put_found [] table = rw itself refl
  put_found (r ∷ rows) table = found_at r rows (value_cmp (rowid r) (rowid row)) refl table.0 (put_found rows table.1)

-- what the row of a number makes of the trees
pub notes : (old new : Trees) (row : Row) (next : ℕ) → row ≡ Int (pos 1) ∷ Null ∷ Int (pos next) ∷ [] → IsTable (old numbers_tree)
    → new ≡ with_tree old numbers_tree (put_row row (old numbers_tree)) → Notes old new next
notes old new row next is table e = record {
  noted = ap next_number e ∙ ap next_in (put_found (pos 1) row (ap rowid is) (old numbers_tree) table) ∙ ap (λ r. next_in (r ∷ [])) is;
  others = λ tree other. ap (λ (trees : Trees). trees tree) e ∙ rw (ne_eqb tree numbers_tree other) refl;
}

pub on_ok_both : {A E : Type 0} (r : Result A E) (P Q R : Type 0) → (P → Q → R) → OnOk r P → OnOk r Q → OnOk r R
on_ok_both (Ok x) P Q R f p q = f p q
on_ok_both (Err e) P Q R f p q = tt

pub on_ok_map : {A E : Type 0} (r : Result A E) (P R : Type 0) → (P → R) → OnOk r P → OnOk r R
on_ok_map (Ok x) P R f p = f p
on_ok_map (Err e) P R f p = tt

pub on_err_map : {A E : Type 0} (r : Result A E) (P R : Type 0) → (P → R) → OnErr r P → OnErr r R
on_err_map (Ok x) P R f p = tt
on_err_map (Err e) P R f p = f p

pub on_err_of : {A E : Type 0} (r : Result A E) (P : Type 0) → P → OnErr r P
on_err_of (Ok x) P p = tt
on_err_of (Err e) P p = p

-- numbers that are taken are not free again
pub takes_grow : (count : ℕ) (was db : Trees) → ((first : ℕ) × Takes was db first count) → next_number was ≤ next_number db
takes_grow count was db t = omega (arith, t.1.free, t.1.noted.noted)

pub take_grows : (first count : ℕ) (was db : Trees) → Takes was db first count → next_number was ≤ next_number db
take_grows first count was db t = omega (arith, t.free, t.noted.noted)
