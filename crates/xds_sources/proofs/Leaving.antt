-- What is live once the changes of a difference are made.
use Rattle.std.proofs.Common.{◌≡◌, ℕ, List, [], ◌∷◌, ◌++◌, Bool, true, false, cond, Option, Some, None, refl, sym, ap, ◌∙◌}
use Rattle.std.specs.Prelude.{T, ◌&&◌, bytes_eq, is_some}
use Rattle.std.specs.Ordering.{is_lt}
use Rattle.std.specs.Option.{option_map, option_map_or}
use Rattle.std.specs.FinMap as finmap
use Rattle.std.specs.FinMap.Entries.{below_all, is_sorted}
use Rattle.std.proofs.lemmas.Map.Text.{is_eq-slice_cmp}
use Rattle.std.proofs.lemmas.Bool.{and_parts, false≢true}
use Rattle.xds_resource.specs.declared.any.AnyWrite.{AnyWrite}
use Rattle.xds_resource.specs.Any.{resource_type, named_body, write_type, stamped_write}
use Rattle.xds_resource.specs.Writes.{text_cmp}
use Rattle.xds_resource.proofs.NameMaps.{bytes_eq_tells, bytes_eq_swap}
use Rattle.xds_resource.proofs.MadeMaps.{find_below}
use Rattle.xds_resource.proofs.BoolsAndLists.{holds_first, holds_second}
use Rattle.xds_sources.specs.declared.reading.FileResource.{FileResource}
use Rattle.xds_sources.specs.Differences.{Edit, puts, deletes, is_for_all, puts_body, stands, puts_of, deletes_of, Live, live_in, held_at, wanted_live, edit_key, edit_live, after, AreWantedByKey, AreHeldByKey, LeavesTheWanted}

after-append : (xs ys : List Edit) (s : List ℕ → Option Live) (k : List ℕ) → after (xs ++ ys) s k ≡ after ys (λ q. after xs s q) k
after-append [] ys s k = refl
after-append (x ∷ xs) ys s k = after-append xs ys (λ q. cond (bytes_eq (edit_key x) q) (edit_live x) (s q)) k

-- a change that is left out, or is made
made_or_not : (b : Bool) (p : Edit) (es : List Edit) (s : List ℕ → Option Live) (k : List ℕ)
    → after (cond b es (p ∷ es)) s k ≡ after es (λ q. cond b (s q) (cond (bytes_eq (edit_key p) q) (edit_live p) (s q))) k
made_or_not true p es s k = refl
made_or_not false p es s k = refl

-- what the puts leave, of what is wanted and was live
abbrev put_at : Option AnyWrite → Option FileResource → Option Live → Option Live
put_at h None o = o
put_at h (Some w) o = cond (stands h w.resource) o (Some (wanted_live w))

put_step : (b here : Bool) (h : Option AnyWrite) (w : FileResource) (later : Option FileResource) (o : Option Live) → (here ≡ true → later ≡ None) → (here ≡ true → b ≡ stands h w.resource)
    → put_at h later (cond b o (cond here (Some (wanted_live w)) o)) ≡ put_at h (cond here (Some w) later) o
put_step b true h w later o alone is = ap (λ l. put_at h l (cond b o (Some (wanted_live w)))) (alone refl) ∙ ap (λ x. cond x o (Some (wanted_live w))) (is refl)
put_step true false h w later o alone is = refl
put_step false false h w later o alone is = refl

puts_leave : (held : finmap.FinMap text_cmp AnyWrite) (es : List (List ℕ × FileResource)) (s : List ℕ → Option Live) (k : List ℕ) → T (is_sorted text_cmp es) → AreWantedByKey es
    → after (puts_of held es) s k ≡ put_at (finmap.get held k) (finmap.find text_cmp k es) (s k)
puts_leave held [] s k sorted keyed = refl
puts_leave held (e ∷ es) s k sorted keyed =
    let below = holds_first (below_all text_cmp e.0 es) (is_sorted text_cmp es) sorted in
    let rest = holds_second (below_all text_cmp e.0 es) (is_sorted text_cmp es) sorted in
    let later = finmap.find text_cmp k es in
    let b = stands (finmap.get held e.0) e.1.resource in
    let p = puts (resource_type e.1.resource) (named_body e.1.resource) in
    made_or_not b p (puts_of held es) s k
    ∙ puts_leave held es (λ q. cond b (s q) (cond (bytes_eq (edit_key p) q) (edit_live p) (s q))) k rest keyed.1
    ∙ ap (λ n. put_at (finmap.get held k) later (cond b (s k) (cond (bytes_eq n k) (Some (wanted_live e.1)) (s k)))) keyed.0
    ∙ put_step b (bytes_eq e.0 k) (finmap.get held k) e.1 later (s k) (λ same. ap (λ n. finmap.find text_cmp n es) (sym (bytes_eq_tells e.0 k same)) ∙ find_below e.0 es below)
    (λ same. ap (λ n. stands (finmap.get held n) e.1.resource) (bytes_eq_tells e.0 k same))
    ∙ ap (λ here. put_at (finmap.get held k) (cond here (Some e.1) later) (s k)) (bytes_eq_swap e.0 k ∙ sym (is_eq-slice_cmp k e.0))

-- what the deletions leave
abbrev kept_at : Option FileResource → Option AnyWrite → Option Live → Option Live
kept_at g None o = o
kept_at g (Some w) o = cond (is_some g) o None

kept_step : (b here : Bool) (g : Option FileResource) (w : AnyWrite) (later : Option AnyWrite) (o : Option Live) → (here ≡ true → later ≡ None) → (here ≡ true → b ≡ is_some g)
    → kept_at g later (cond b o (cond here None o)) ≡ kept_at g (cond here (Some w) later) o
kept_step b true g w later o alone is = ap (λ l. kept_at g l (cond b o None)) (alone refl) ∙ ap (λ x. cond x o None) (is refl)
kept_step true false g w later o alone is = refl
kept_step false false g w later o alone is = refl

deletes_leave : (wanted : finmap.FinMap text_cmp FileResource) (es : List (List ℕ × AnyWrite)) (s : List ℕ → Option Live) (k : List ℕ) → T (is_sorted text_cmp es) → AreHeldByKey es
    → after (deletes_of wanted es) s k ≡ kept_at (finmap.get wanted k) (finmap.find text_cmp k es) (s k)
deletes_leave wanted [] s k sorted keyed = refl
deletes_leave wanted (e ∷ es) s k sorted keyed =
    let below = holds_first (below_all text_cmp e.0 es) (is_sorted text_cmp es) sorted in
    let rest = holds_second (below_all text_cmp e.0 es) (is_sorted text_cmp es) sorted in
    let later = finmap.find text_cmp k es in
    let b = is_some (finmap.get wanted e.0) in
    let p = deletes (write_type e.1) (stamped_write e.1).name in
    made_or_not b p (deletes_of wanted es) s k
    ∙ deletes_leave wanted es (λ q. cond b (s q) (cond (bytes_eq (edit_key p) q) (edit_live p) (s q))) k rest keyed.1
    ∙ ap (λ n. kept_at (finmap.get wanted k) later (cond b (s k) (cond (bytes_eq n k) None (s k)))) keyed.0
    ∙ kept_step b (bytes_eq e.0 k) (finmap.get wanted k) e.1 later (s k) (λ same. ap (λ n. finmap.find text_cmp n es) (sym (bytes_eq_tells e.0 k same)) ∙ find_below e.0 es below)
    (λ same. ap (λ n. is_some (finmap.get wanted n)) (bytes_eq_tells e.0 k same))
    ∙ ap (λ here. kept_at (finmap.get wanted k) (cond here (Some e.1) later) (s k)) (bytes_eq_swap e.0 k ∙ sym (is_eq-slice_cmp k e.0))

stood_by : (b : Option (List ℕ)) (gs : List (List ℕ)) (body : List ℕ) → option_map_or (λ x. bytes_eq x body && is_for_all gs) b false ≡ true
    → option_map {U = Live} (λ x. record { body = x; groups = gs }) b ≡ Some (record { body = body; groups = [] })
stood_by None gs body h = absurd (false≢true h)
stood_by (Some x) [] body h = ap (λ y. Some (record { body = y; groups = [] })) (bytes_eq_tells x body (and_parts (bytes_eq x body) true h).0)
stood_by (Some x) (g ∷ gs) body h = absurd (false≢true (and_parts (bytes_eq x body) false h).1)

choose : (b : Bool) (o : Option Live) (x : Live) → (b ≡ true → o ≡ Some x) → cond b o (Some x) ≡ Some x
choose true o x f = f refl
choose false o x f = refl

both_leave : (h : Option AnyWrite) (g : Option FileResource) → kept_at g h (put_at h g (held_at h)) ≡ option_map wanted_live g
both_leave None None = refl
both_leave (Some w) None = refl
both_leave None (Some v) = refl
both_leave (Some w) (Some v) =
    let body = (named_body v.resource).body in choose (puts_body (stamped_write w) body) (live_in (stamped_write w)) (wanted_live v) (stood_by (stamped_write w).body (stamped_write w).groups body)

pub leaves_the_wanted : LeavesTheWanted
leaves_the_wanted held wanted by_key held_by_key k =
    let made = puts_of held (finmap.entries wanted) in
    let s : List ℕ → Option Live = λ q. held_at (finmap.get held q) in
    after-append made (deletes_of wanted (finmap.entries held)) s k
    ∙ deletes_leave wanted (finmap.entries held) (λ q. after made s q) k (finmap.entries_sorted held) held_by_key
    ∙ ap (λ o. kept_at (finmap.get wanted k) (finmap.find text_cmp k (finmap.entries held)) o) (puts_leave held (finmap.entries wanted) s k (finmap.entries_sorted wanted) by_key)
    ∙ ap (λ h. kept_at (finmap.get wanted k) h (put_at (finmap.get held k) (finmap.find text_cmp k (finmap.entries wanted)) (held_at (finmap.get held k)))) (sym (finmap.get-entries held k))
    ∙ ap (λ g. kept_at (finmap.get wanted k) (finmap.get held k) (put_at (finmap.get held k) g (held_at (finmap.get held k)))) (sym (finmap.get-entries wanted k))
    ∙ both_leave (finmap.get held k) (finmap.get wanted k)
