-- A batch that is put type by type, write by write.
use Rattle.std.proofs.Common.{◌≡◌, ℕ, ◌+◌, ◌<◌, ◌≤◌, List, [], ◌∷◌, ◌++◌, filter, take, length, get_or, pos, refl, sym, ap, subst, ◌∙◌, arith, append-nil}
use Rattle.std.proofs.lemmas.List.{map-append, take_more}
use Rattle.sqlite_trees.specs.Tree.{Trees, has_rowid}
use Rattle.sqlite_trees.specs.View.{View, IsClean}
use Rattle.xds_resource.specs.declared.types.TypeName.{TypeName}
use Rattle.xds_resource.specs.declared.types.TypeName.TheVariants.{Cluster, Endpoint, Listener, Route, Secret}
use Rattle.xds_resource.specs.PerType.{PerType, at}
use Rattle.xds_resource.specs.Best.{greater, best}
use Rattle.xds_resource.specs.TypedWrites.{TypedWrite}
use Rattle.xds_resource.specs.Writes.{StampedWrite}
use Rattle.xds_resource.proofs.BestWrites.{best_of_both}
use Rattle.xds_catalogue.proofs.Catalogues.{same_catalogue}
use Rattle.xds_message.specs.Batches.{typed, in_order}
use Rattle.xds_message.proofs.BatchLemmas.{writes_of-in_order}
use Rattle.xds_store.specs.Joins.{IsJoined, stored_in}
use Rattle.xds_store.specs.Rows.{Puts}
use Rattle.xds_store.specs.Steps.{IsPending}
use Rattle.xds_store.specs.Tables.{HasTables, numbers_tree, next_in, next_number}
use Rattle.xds_store.proofs.PutLemmas.{puts_nothing, puts_both}

-- writes that were put in their order are joined
pub joined_of_puts : (old new : Trees) (b : PerType (List StampedWrite)) → Puts old new (in_order b) → IsJoined old new b
joined_of_puts old new b puts = record {
  others = puts.others;
  writes = puts.rows;
  joined = λ all t. same_catalogue _ _ (λ q.
      puts.best_of_both all t q ∙ ap (λ ws. greater (best (stored_in old t) q) (best ws q)) (writes_of-in_order b t) ∙ sym (best_of_both (stored_in old t) (at b t) q));
}

pub join_keeps_numbers : (b : PerType (List StampedWrite)) (was db : Trees) → IsJoined was db b → next_number was ≤ next_number db
join_keeps_numbers b was db joined =
    let same : next_number db ≡ next_number was = ap (λ rows. next_in (filter (has_rowid (pos 1)) rows)) (joined.others numbers_tree (λ e. absurd (omega (arith, e)))) in
    omega (arith, same)

-- the writes of each type, one type after another
pub types_put : (x : PerType (List StampedWrite)) (a b c d e f : Trees) → Puts a b (typed Cluster x.cluster) → Puts b c (typed Endpoint x.endpoint) → Puts c d (typed Listener x.listener)
    → Puts d e (typed Route x.route) → Puts e f (typed Secret x.secret) → Puts a f (in_order x)
types_put x a b c d e f one two three four five =
    puts_both a b f (typed Cluster x.cluster) (typed Endpoint x.endpoint ++ (typed Listener x.listener ++ (typed Route x.route ++ (typed Secret x.secret ++ [])))) one
    (puts_both b c f (typed Endpoint x.endpoint) (typed Listener x.listener ++ (typed Route x.route ++ (typed Secret x.secret ++ []))) two
    (puts_both c d f (typed Listener x.listener) (typed Route x.route ++ (typed Secret x.secret ++ [])) three
    (puts_both d e f (typed Route x.route) (typed Secret x.secret ++ []) four (subst (Puts e f) (sym (append-nil (typed Secret x.secret))) five))))

-- one write more of a type
typed_one_more : (t : TypeName) (ws : List StampedWrite) (i : ℕ) (w : StampedWrite) → i < length ws → w ≡ get_or ws i w → typed t (take (i + 1) ws) ≡ typed t (take i ws) ++ (t, w) ∷ []
typed_one_more t ws i w within is = ap (typed t) (take_more ws i w within ∙ ap (λ v. take i ws ++ v ∷ []) (sym is)) ∙ map-append (λ v. (t, v)) (take i ws) (w ∷ [])

pub typed_more : (t : TypeName) (ws xs : List StampedWrite) (i : ℕ) (w : StampedWrite) → xs ≡ ws → i < length xs → w ≡ get_or xs i w
    → typed t (take (i + 1) ws) ≡ typed t (take i ws) ++ (t, w) ∷ []
typed_more t ws xs i w same within is = subst (λ ys. typed t (take (i + 1) ys) ≡ typed t (take i ys) ++ (t, w) ∷ []) same (typed_one_more t xs i w within is)

-- what was put so far
pub record IsPutSoFar {S : Type 0} (view : S → View) (recovers : S → Trees → Type 0) (old new : S) (xs : List TypedWrite) : Type 0 where
  pub pending : IsPending view recovers old new
  pub tables : HasTables (view new)
  pub puts : IsClean (view new) → Puts (view old).trees (view new).trees xs

module _ {S : Type 0} (view : S → View) (recovers : S → Trees → Type 0) where
  pub nothing_yet : (old : S) → HasTables (view old) → IsPutSoFar view recovers old old []
  nothing_yet old tables = record {
    pending = record { clean = omega arith; was_open = λ o. o; committed = λ o. refl; outcomes = λ db left. left };
    tables = tables;
    puts = λ clean. puts_nothing (view old).trees;
  }

  pub pending_both : (old mid new : S) → IsPending view recovers old mid → IsPending view recovers mid new → IsPending view recovers old new
  pending_both old mid new one two = record {
    clean = omega (arith, one.clean, two.clean);
    was_open = λ o. one.was_open (two.was_open o);
    committed = λ o. two.committed o ∙ one.committed (two.was_open o);
    outcomes = λ db left. one.outcomes db (two.outcomes db left);
  }

  pub one_more : (old mid new : S) (xs ys : List TypedWrite) → IsPutSoFar view recovers old mid xs → IsPending view recovers mid new → HasTables (view new)
      → (IsClean (view new) → Puts (view mid).trees (view new).trees ys) → IsPutSoFar view recovers old new (xs ++ ys)
  one_more old mid new xs ys so_far pending tables puts = record {
    pending = pending_both old mid new so_far.pending pending;
    tables = tables;
    puts = λ clean. puts_both _ _ _ xs ys (so_far.puts (omega (arith, pending.clean, clean))) (puts clean);
  }
