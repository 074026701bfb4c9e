-- What catalogues have at each name: the best write of the list that they are made of.
use Rattle.std.proofs.Common.{◌≡◌, ◌≢◌, ℕ, List, [], ◌∷◌, ◌++◌, map, Bool, true, false, cond, Option, Some, None, unwrap_or, is_some, refl, sym, ap, subst, ◌∙◌}
use Rattle.std.specs.Prelude.{T, Contains, MatchOption, bytes_eq, IfSome, if◌then◌else◌, ◌&&◌}
use Rattle.std.specs.declared.cmp.Ordering.{Ordering}
use Rattle.std.specs.declared.cmp.Ordering.TheVariants.{Less, Equal, Greater}
use Rattle.std.specs.Ordering.{eq_by_cmp, is_lt, is_eq}
use Rattle.std.specs.FinMap as finmap
use Rattle.std.specs.FinMap.Entries.{below_all, is_sorted}
use Rattle.std.proofs.lemmas.Map.Text.{is_eq-slice_cmp}
use Rattle.std.proofs.lemmas.Cmp.{nat_list_cmp_total}
use Rattle.xds_resource.specs.Writes.{StampedWrite, text_cmp}
use Rattle.xds_resource.specs.Best.{greater, best, IsGreatest}
use Rattle.xds_resource.proofs.BestWrites.{best_is_greatest, best_of_both}
use Rattle.xds_resource.proofs.WriteTies.{text_cmp-IsAntisymmetric}
use Rattle.xds_catalogue.specs.Holdings.{Entries, catalogue_of, IsCatalogue}
use Rattle.xds_resource.proofs.NameMaps.{bytes_eq_tells, bytes_eq_same}
use Rattle.xds_resource.proofs.BoolsAndLists.{holds_second}

bytes_eq_swap_at : (x y : List ℕ) (b c : Bool) → bytes_eq x y ≡ b → bytes_eq y x ≡ c → b ≡ c
bytes_eq_swap_at x y true true e f = refl
bytes_eq_swap_at x y false false e f = refl
bytes_eq_swap_at x y true false e f = let s = sym (bytes_eq_same x) ∙ ap (λ z. bytes_eq z x) (bytes_eq_tells x y e) in cc
bytes_eq_swap_at x y false true e f = let s = sym (bytes_eq_same y) ∙ ap (λ z. bytes_eq z y) (bytes_eq_tells y x f) in cc

-- names tie in their order where they are the same bytes
pub tie-bytes_eq : (q x : List ℕ) → eq_by_cmp text_cmp q x ≡ bytes_eq x q
tie-bytes_eq q x = is_eq-slice_cmp q x ∙ bytes_eq_swap_at q x _ _ refl refl

-- the name of a best write is the one that was asked for
best_named_at : (ws : List StampedWrite) (q : List ℕ) (o : Option StampedWrite) → best ws q ≡ o
    → MatchOption o ((v : StampedWrite) → Contains ws v → v.name ≢ q) (IsGreatest ws q) → IfSome o (λ w. w.name ≡ q)
best_named_at ws q None e is = tt
best_named_at ws q (Some w) e is = is.named

-- rule: greatest-write
pub best_named : (ws : List StampedWrite) (q : List ℕ) → IfSome (best ws q) (λ w. w.name ≡ q)
best_named ws q = best_named_at ws q (best ws q) refl (best_is_greatest ws q)

-- each write beside its name, with what h has of that name
abbrev beside : (List ℕ → Option StampedWrite) → List StampedWrite → List (List ℕ × StampedWrite)
beside h ws = map (λ w. (w.name, unwrap_or (h w.name) w)) ws

found_none : (h : List ℕ → Option StampedWrite) (q : List ℕ) (w : StampedWrite) (r o : Option StampedWrite) (b : Bool) → (o ≡ None → r ≡ None)
    → greater (if b then Some w else None) o ≡ None → cond b (Some (unwrap_or (h w.name) w)) r ≡ None
found_none h q w r None true rest e = absurd cc
found_none h q w r (Some v) true rest e = absurd cc
found_none h q w r o false rest e = rest e

find-beside_none : (h : List ℕ → Option StampedWrite) (ws : List StampedWrite) (q : List ℕ) → best ws q ≡ None → finmap.find text_cmp q (beside h ws) ≡ None
find-beside_none h [] q e = refl
find-beside_none h (w ∷ ws) q e =
    ap (λ b. cond b (Some (unwrap_or (h w.name) w)) (finmap.find text_cmp q (beside h ws))) (tie-bytes_eq q w.name)
    ∙ found_none h q w (finmap.find text_cmp q (beside h ws)) (best ws q) (bytes_eq w.name q) (find-beside_none h ws q) e

found_some : (h : List ℕ → Option StampedWrite) (q : List ℕ) (w v : StampedWrite) (r o : Option StampedWrite) (b : Bool) → bytes_eq w.name q ≡ b → h q ≡ Some v → (is_some o ≡ true → r ≡ Some v)
    → is_some (greater (if b then Some w else None) o) ≡ true → cond b (Some (unwrap_or (h w.name) w)) r ≡ Some v
found_some h q w v r o true is has rest e = ap (λ n. Some (unwrap_or (h n) w)) (bytes_eq_tells w.name q is) ∙ ap (λ o. Some (unwrap_or o w)) has
found_some h q w v r o false is has rest e = rest e

find-beside_some : (h : List ℕ → Option StampedWrite) (ws : List StampedWrite) (q : List ℕ) (v : StampedWrite) → h q ≡ Some v → is_some (best ws q) ≡ true
    → finmap.find text_cmp q (beside h ws) ≡ Some v
find-beside_some h [] q v has e = absurd cc
find-beside_some h (w ∷ ws) q v has e =
    ap (λ b. cond b (Some (unwrap_or (h w.name) w)) (finmap.find text_cmp q (beside h ws))) (tie-bytes_eq q w.name)
    ∙ found_some h q w v (finmap.find text_cmp q (beside h ws)) (best ws q) (bytes_eq w.name q) refl has (find-beside_some h ws q v has) e

find-best : (ws : List StampedWrite) (q : List ℕ) (o : Option StampedWrite) → best ws q ≡ o → finmap.find text_cmp q (beside (best ws) ws) ≡ o
find-best ws q None e = find-beside_none (best ws) ws q e
find-best ws q (Some v) e = find-beside_some (best ws) ws q v e (ap is_some e)

-- rule: greatest-write
pub get-catalogue_of : (ws : List StampedWrite) (q : List ℕ) → finmap.get (catalogue_of ws) q ≡ best ws q
get-catalogue_of ws q = finmap.get-from_entries nat_list_cmp_total (beside (best ws) ws) q ∙ find-best ws q (best ws q) refl

pub catalogue_of-IsCatalogue : (ws : List StampedWrite) → IsCatalogue (catalogue_of ws)
catalogue_of-IsCatalogue ws q = subst (λ o. IfSome o (λ w. w.name ≡ q)) (sym (get-catalogue_of ws q)) (best_named ws q)

-- what is the same at each name is the same
pub same_entries : (m n : Entries) → ((q : List ℕ) → finmap.get m q ≡ finmap.get n q) → m ≡ n
same_entries m n same = finmap.same_map nat_list_cmp_total text_cmp-IsAntisymmetric m n same

pub same_catalogue : (v w : List StampedWrite) → ((q : List ℕ) → best v q ≡ best w q) → catalogue_of v ≡ catalogue_of w
same_catalogue v w same = same_entries _ _ (λ q. get-catalogue_of v q ∙ same q ∙ sym (get-catalogue_of w q))

-- entries in the order of their names, each under its write's name
abbrev AreNamed : List (List ℕ × StampedWrite) → Type 0
AreNamed es = (q : List ℕ) → IfSome (finmap.find text_cmp q es) (λ w. w.name ≡ q)

less_first : (a b : Bool) → T (a && b) → a ≡ true
less_first true b h = refl
less_first false b h = absurd h

not_tied : (o : Ordering) → is_lt o ≡ true → is_eq o ≡ false
not_tied Less e = refl
not_tied Equal e = absurd cc
not_tied Greater e = absurd cc

pub find_below : (q : List ℕ) (es : List (List ℕ × StampedWrite)) → T (below_all text_cmp q es) → finmap.find text_cmp q es ≡ None
find_below q [] h = refl
find_below q (e ∷ es) h =
    ap (λ b. cond b (Some e.1) (finmap.find text_cmp q es)) (not_tied (text_cmp q e.0) (less_first (is_lt (text_cmp q e.0)) (below_all text_cmp q es) h))
    ∙ find_below q es (holds_second (is_lt (text_cmp q e.0)) (below_all text_cmp q es) h)

head_named : (e : List ℕ × StampedWrite) (es : List (List ℕ × StampedWrite)) → AreNamed (e ∷ es) → e.1.name ≡ e.0
head_named e es named =
    subst (λ b. IfSome (cond b (Some e.1) (finmap.find text_cmp e.0 es)) (λ w. w.name ≡ e.0)) (tie-bytes_eq e.0 e.0 ∙ bytes_eq_same e.0) (named e.0)

rest_named_at : (e : List ℕ × StampedWrite) (q : List ℕ) (r : Option StampedWrite) (b : Bool) → (b ≡ true → r ≡ None)
    → IfSome (cond b (Some e.1) r) (λ w. w.name ≡ q) → IfSome r (λ w. w.name ≡ q)
rest_named_at e q r true none h = subst (λ o. IfSome o (λ w. w.name ≡ q)) (sym (none refl)) tt
rest_named_at e q r false none h = h

-- what is below each of the entries is not found there
pub none_tied : (e : List ℕ × StampedWrite) (es : List (List ℕ × StampedWrite)) (q : List ℕ) → T (below_all text_cmp e.0 es) → eq_by_cmp text_cmp q e.0 ≡ true → finmap.find text_cmp q es ≡ None
none_tied e es q below tie =
    let same : e.0 ≡ q = bytes_eq_tells e.0 q (sym (tie-bytes_eq q e.0) ∙ tie) in
    subst (λ k. finmap.find text_cmp k es ≡ None) same (find_below e.0 es below)

best_at_head : (w : StampedWrite) (r : Option StampedWrite) (b : Bool) → (b ≡ true → r ≡ None) → greater (if b then Some w else None) r ≡ cond b (Some w) r
best_at_head w r true none = ap (greater (Some w)) (none refl)
best_at_head w r false none = refl

best-sorted : (es : List (List ℕ × StampedWrite)) → T (is_sorted text_cmp es) → AreNamed es → (q : List ℕ) → best (map (λ e. e.1) es) q ≡ finmap.find text_cmp q es
best-sorted [] sorted named q = refl
best-sorted (e ∷ es) sorted named q =
    let below : T (below_all text_cmp e.0 es) = below_first (below_all text_cmp e.0 es) (is_sorted text_cmp es) sorted in
    let rest : AreNamed es = λ k. rest_named_at e k _ (eq_by_cmp text_cmp k e.0) (none_tied e es k below) (named k) in
    let tie : bytes_eq e.1.name q ≡ eq_by_cmp text_cmp q e.0 = ap (λ n. bytes_eq n q) (head_named e es named) ∙ sym (tie-bytes_eq q e.0) in
    (λ i. greater (if tie i then Some e.1 else None) (best-sorted es (holds_second (below_all text_cmp e.0 es) _ sorted) rest q i))
    ∙ best_at_head e.1 _ (eq_by_cmp text_cmp q e.0) (none_tied e es q below)
  where
    below_first : (a b : Bool) → T (a && b) → T a
    below_first true b h = tt
    below_first false b h = h

-- the entries of a catalogue have at each name what the catalogue has
pub best-values : (m : Entries) → IsCatalogue m → (q : List ℕ) → best (finmap.values m) q ≡ finmap.get m q
best-values m named q =
    best-sorted (finmap.entries m) (finmap.entries_sorted m) (λ k. subst (λ o. IfSome o (λ w. w.name ≡ k)) (finmap.get-entries m k) (named k)) q ∙ sym (finmap.get-entries m q)

pub best-entries_of : (ws : List StampedWrite) (q : List ℕ) → best (finmap.values (catalogue_of ws)) q ≡ best ws q
best-entries_of ws q = best-values (catalogue_of ws) (catalogue_of-IsCatalogue ws) q ∙ get-catalogue_of ws q

-- the same with writes that came later
pub best-entries_with : (v w : List StampedWrite) (q : List ℕ) → best (finmap.values (catalogue_of v) ++ w) q ≡ best (v ++ w) q
best-entries_with v w q = best_of_both _ w q ∙ ap (λ o. greater o (best w q)) (best-entries_of v q) ∙ sym (best_of_both v w q)

pub catalogue_of-entries : (v w : List StampedWrite) → catalogue_of (finmap.values (catalogue_of v) ++ w) ≡ catalogue_of (v ++ w)
catalogue_of-entries v w = same_catalogue _ _ (best-entries_with v w)
