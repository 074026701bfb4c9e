-- The line that is told as the best of a name has the greatest write of the name.
use Rattle.std.proofs.Common.{◌≡◌, ◌+◌, ℕ, List, [], ◌∷◌, ◌++◌, reverse, Bool, true, false, cond, Option, Some, None, refl, sym, ap, ◌∙◌, append_assoc}
use Rattle.std.specs.Prelude.{if◌then◌else◌}
use Rattle.std.specs.Option.{option_map, option_and_then}
use Rattle.std.specs.Ordering.{is_lt}
use Rattle.std.proofs.lemmas.List.{reverse-append, append-nil}
use Rattle.std.proofs.lemmas.List.Concat.{flat_map-cons}
use Rattle.xds_resource.specs.declared.types.TypeName.{TypeName}
use Rattle.xds_resource.specs.Any.{write_type, stamped_write}
use Rattle.xds_resource.specs.Best.{best, greater, if_named}
use Rattle.xds_resource.specs.Types.{is_same_type}
use Rattle.xds_resource.specs.Writes.{StampedWrite, write_cmp}
use Rattle.xds_check.specs.declared.line.Line.{Line}
use Rattle.xds_check.specs.declared.line.Line.TheVariants as lines
use Rattle.xds_check.specs.Lines.{write_at, writes_in, standing}
use Rattle.xds_explain.specs.BestLines.{write_under, is_surpassed, better, best_from, best_line}

abbrev write_in : Option (ℕ × StampedWrite) → Option StampedWrite
write_in o = option_map (λ p. p.1) o

chosen : (b : Bool) (k : ℕ × StampedWrite) (n : ℕ) (w : StampedWrite) → write_in (if b then Some (n, w) else Some k) ≡ Some (cond b w k.1)
chosen true k n w = refl
chosen false k n w = refl

-- what is kept has the greater of both writes
better_is : (kept : Option (ℕ × StampedWrite)) (n : ℕ) (next : Option StampedWrite) → write_in (better kept n next) ≡ greater next (write_in kept)
better_is kept n None = refl
better_is None n (Some w) = refl
better_is (Some k) n (Some w) = chosen (is_lt (write_cmp k.1 w)) k n w

by_type : (b : Bool) (w : StampedWrite) (name : List ℕ) (ws : List StampedWrite)
    → best ((if b then w ∷ [] else []) ++ ws) name ≡ greater (option_and_then (if_named name) (if b then Some w else None)) (best ws name)
by_type true w name ws = refl
by_type false w name ws = refl

-- the greatest write once a line came
standing_more : (t : TypeName) (name : List ℕ) (l : Line) (e : List Line) → standing t (l ∷ e) name ≡ greater (write_under t name l) (standing t e name)
standing_more t name (lines.Write w) e =
    ap (λ ws. best ws name) (flat_map-cons (write_at t) (lines.Write w) e) ∙ by_type (is_same_type (write_type w) t) (stamped_write w) name (writes_in t e)
standing_more t name (lines.Open s) e = ap (λ ws. best ws name) (flat_map-cons (write_at t) (lines.Open s) e)
standing_more t name (lines.Close s) e = ap (λ ws. best ws name) (flat_map-cons (write_at t) (lines.Close s) e)
standing_more t name (lines.Request s m) e = ap (λ ws. best ws name) (flat_map-cons (write_at t) (lines.Request s m) e)
standing_more t name (lines.Response s a) e = ap (λ ws. best ws name) (flat_map-cons (write_at t) (lines.Response s a) e)
standing_more t name (lines.Idle s u) e = ap (λ ws. best ws name) (flat_map-cons (write_at t) (lines.Idle s u) e)

turned : (l : Line) (ls e : List Line) → reverse ls ++ (l ∷ e) ≡ reverse (l ∷ ls) ++ e
turned l ls e = sym (ap (λ (z : List Line). z ++ e) (reverse-append (l ∷ []) ls) ∙ append_assoc (reverse ls) (l ∷ []) e)

best_more : (t : TypeName) (name : List ℕ) (n : ℕ) (ls e : List Line) (kept : Option (ℕ × StampedWrite)) → write_in kept ≡ standing t e name
    → write_in (best_from t name n ls kept) ≡ standing t (reverse ls ++ e) name
best_more t name n [] e kept is = is
best_more t name n (l ∷ ls) e kept is =
    let next = better_is kept n (write_under t name l) ∙ ap (greater (write_under t name l)) is ∙ sym (standing_more t name l e) in
    best_more t name (n + 1) ls (l ∷ e) (better kept n (write_under t name l)) next ∙ ap (λ (z : List Line). standing t z name) (turned l ls e)

pub best_is : (t : TypeName) (name : List ℕ) (trace : List Line) → write_in (best_line t name trace) ≡ standing t (reverse trace) name
best_is t name trace = best_more t name 1 trace [] None refl ∙ ap (λ (z : List Line). standing t z name) (append-nil (reverse trace))
