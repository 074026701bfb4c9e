-- Rows that are read one after another.
use Rattle.std.proofs.Common.{◌≡◌, List, [], ◌∷◌, ◌++◌, map, true, false, Option, Some, refl, sym, ap, subst, ◌∙◌, append-nil, append_assoc}
use Rattle.std.proofs.lemmas.List.{map-append}
use Rattle.sqlite_value.specs.Keys.{plain}
use Rattle.sqlite_value.specs.Order.{Row}
use Rattle.sqlite_trees.specs.Tree.{from_key}
use Rattle.sqlite_trees.specs.View.{View, Advances}
use Rattle.xds_resource.specs.declared.any.AnyWrite.{AnyWrite}
use Rattle.xds_resource.specs.Any.{write_type, stamped_write}
use Rattle.xds_resource.specs.PerType.{at, each, with_at}
use Rattle.xds_resource.specs.Writes.{StampedWrite}
use Rattle.xds_catalogue.specs.Holdings.{nothing_held, catalogue_of}
use Rattle.xds_catalogue.specs.Joins.{joined}
use Rattle.xds_catalogue.proofs.Catalogues.{catalogue_of-entries}
use Rattle.xds_message.specs.Batches.{typed_write, by_type}
use Rattle.xds_message.proofs.BatchLemmas.{by_type-push}
use Rattle.xds_resource.specs.TypedWrites.{writes_of}
use Rattle.xds_resource.proofs.TypesApart.{at-per_type}
use Rattle.xds_store.specs.Reading.{Batch, with_row, ReadsOn, IsReadTo, IsWhole}
use Rattle.xds_store.specs.Rows.{IsRowOf, IsRow, AreRows, typed_in, stored}
use Rattle.xds_store.proofs.RowLemmas.{read_again, row_of_it}

pub reads_one : (old new : View) (row : Row) (w : AnyWrite) (b c : Batch) → Advances old new 0 row true → IsRowOf row (typed_write w)
    → c ≡ with_at b (write_type w) (at b (write_type w) ++ stamped_write w ∷ []) → ReadsOn (old.cursors 0) (new.cursors 0) b c true
reads_one old new row w b c moved is e =
    (row, moved.0, moved.1, ap (λ v. v.cursors 0) moved.2, row_of_it row (typed_write w) is, e ∙ ap (λ x. with_at b x.0 (at b x.0 ++ x.1 ∷ [])) (sym (read_again row (typed_write w) is)))

-- each row is at or behind the empty key
pub from_start : (rows : List Row) → from_key plain [] rows ≡ rows
from_start [] = refl
from_start (r ∷ rows) = refl

one_row_more : (done : List Row) (r : Row) → AreRows done → IsRow r → AreRows (done ++ r ∷ [])
one_row_more [] r all is = (is, tt)
one_row_more (e ∷ es) r all is = (all.0, one_row_more es r all.1 is)

pub none_read : (rows : List Row) (cursor : Option (List Row)) (batch : Batch) → batch ≡ each [] → cursor ≡ Some (from_key plain [] rows) → IsReadTo rows cursor batch
none_read rows cursor batch empty is = record { done = []; left = rows; all = refl; next = is ∙ ap Some (from_start rows); read = empty; are_rows = tt }

pub one_read : (rows : List Row) (was now : Option (List Row)) (b c : Batch) → IsReadTo rows was b → ReadsOn was now b c true → IsReadTo rows now c
one_read rows was now b c so_far step =
    let r = step.0 in
    let same : so_far.left ≡ r ∷ step.1 = let e = sym so_far.next ∙ step.2 in cc in
    record {
      done = so_far.done ++ r ∷ [];
      left = step.1;
      all = so_far.all ∙ ap (λ l. so_far.done ++ l) same ∙ sym (append_assoc so_far.done (r ∷ []) step.1);
      next = step.3;
      read = step.5 ∙ ap (λ x. with_row x r) so_far.read ∙ sym (by_type-push (map typed_in so_far.done) (typed_in r).0 (typed_in r).1) ∙ ap by_type (sym (map-append typed_in so_far.done (r ∷ [])));
      are_rows = one_row_more so_far.done r so_far.are_rows step.4;
    }

pub all_read : (rows : List Row) (was now : Option (List Row)) (b c : Batch) → IsReadTo rows was b → ReadsOn was now b c false → IsWhole rows c
all_read rows was now b c so_far step =
    let none : so_far.left ≡ [] = let e = sym so_far.next ∙ step.0 in cc in
    let whole : rows ≡ so_far.done = so_far.all ∙ ap (λ l. so_far.done ++ l) none ∙ append-nil so_far.done in
    record {
      are_rows = subst AreRows (sym whole) so_far.are_rows;
      stands = λ t. ap (λ (x : Batch). at x t) (step.1 ∙ so_far.read) ∙ at-per_type (λ u. writes_of u (map typed_in so_far.done)) t ∙ ap (stored t) (sym whole);
    }

-- joined to nothing, writes come to their catalogue
pub all_joined : (ws vs : List StampedWrite) → ws ≡ vs → (joined nothing_held ws).entries ≡ catalogue_of vs
all_joined ws vs same = catalogue_of-entries [] ws ∙ ap catalogue_of same
