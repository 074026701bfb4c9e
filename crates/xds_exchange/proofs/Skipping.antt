-- Writes that are no greater than what stands change nothing, so that they may be left out.
use Rattle.std.proofs.Common.{◌≡◌, ◌≢◌, ℕ, ◌+◌, List, [], ◌∷◌, ◌++◌, map, Bool, true, false, not, cond, ◌&&◌, Option, Some, None, All, refl, sym, ap, subst, ◌∙◌, arith}
use Rattle.std.specs.Prelude.{T, IfSome, IsSomeAnd}
use Rattle.std.specs.declared.cmp.Ordering.TheVariants.{Equal, Greater}
use Rattle.std.specs.Ordering.{eq_by_cmp}
use Rattle.std.specs.FinMap as finmap
use Rattle.std.specs.FinMap.Entries.{where_key, find, is_sorted, below_all, is_sorted-where_key, find-where_key}
use Rattle.std.proofs.lemmas.List.Elements.{All-nil, All-cons, All-head, All-tail}
use Rattle.xds_resource.specs.Writes.{StampedWrite, text_cmp, write_cmp}
use Rattle.xds_resource.specs.Best.{greater, best}
use Rattle.xds_resource.proofs.BestWrites.{best_of_both, not_gt}
use Rattle.xds_resource.proofs.NameMaps.{bytes_eq_same}
use Rattle.xds_resource.proofs.WriteTies.{text_cmp-IsAntisymmetric}
use Rattle.xds_catalogue.specs.Holdings.{Entries, Holdings, IsCatalogue}
use Rattle.xds_catalogue.specs.Changes.{surpasses}
use Rattle.xds_catalogue.specs.Joins.{joined, changes_by, IsAbove}
use Rattle.xds_catalogue.proofs.Catalogues.{tie-bytes_eq, get-catalogue_of, best-values, none_tied, same_entries, catalogue_of-IsCatalogue}
use Rattle.xds_catalogue.proofs.Joining.{joined_again}
use Rattle.xds_catalogue.proofs.OneWrite.{joined-old}
use Rattle.xds_catalogue.proofs.Surpassing.{surpasses-greater}
use Rattle.xds_core.specs.Since.{is_above, changed_after}
use Rattle.xds_exchange.specs.Rounds.{unchanged_after}

abbrev Entry : Type 0
Entry = List ℕ × StampedWrite

-- ---- each entry of a map is found there

both_T : (a b : Bool) → T (a && b) → T a × T b
both_T true b h = (tt, h)
both_T false b h = absurd h

found_later : (e x : Entry) (es : List Entry) (tied : Bool) → eq_by_cmp text_cmp x.0 e.0 ≡ tied → T (below_all text_cmp e.0 es) → find text_cmp x.0 es ≡ Some x.1 → find text_cmp x.0 (e ∷ es) ≡ Some x.1
found_later e x es true is below found = let never = sym (none_tied e es x.0 below is) ∙ found in cc
found_later e x es false is below found = ap (λ b. cond b (Some e.1) (find text_cmp x.0 es)) is ∙ found

each_found : (es : List Entry) → T (is_sorted text_cmp es) → All (λ (x : Entry). find text_cmp x.0 es ≡ Some x.1) es
each_found [] sorted = All-nil (λ (x : Entry). find text_cmp x.0 [] ≡ Some x.1)
each_found (e ∷ es) sorted =
    let parts = both_T (below_all text_cmp e.0 es) (is_sorted text_cmp es) sorted in
    let rest = each_found es parts.1 in
    All-cons (λ (x : Entry). find text_cmp x.0 (e ∷ es) ≡ Some x.1) e es (ap (λ b. cond b (Some e.1) (find text_cmp e.0 es)) (tie-bytes_eq e.0 e.0 ∙ bytes_eq_same e.0))
    (λ k d below. found_later e _ es _ refl parts.0 (rest k d below))

pub entries_found : (m : Entries) → All (λ (x : Entry). finmap.get m x.0 ≡ Some x.1) (finmap.entries m)
entries_found m = λ k d below. finmap.get-entries m _ ∙ each_found (finmap.entries m) (finmap.entries_sorted m) k d below

-- ---- writes that are left out

pub no_greater : (w : StampedWrite) (a b : Option StampedWrite) → surpasses w a ≡ false → surpasses w (greater a b) ≡ false
no_greater w a b below = surpasses-greater w a b ∙ ap (λ t. t && surpasses w b) below

-- what no write surpasses it doesn't surpass later either
stays_below : (h : Holdings) (v w : StampedWrite) → IsCatalogue h.entries → surpasses w (finmap.get h.entries w.name) ≡ false → surpasses w (finmap.get (joined h (v ∷ [])).entries w.name) ≡ false
stays_below h v w named below =
    ap (surpasses w) (get-catalogue_of (finmap.values h.entries ++ v ∷ []) w.name ∙ best_of_both (finmap.values h.entries) (v ∷ []) w.name ∙ ap (λ o. greater o (best (v ∷ []) w.name)) (best-values h.entries named w.name))
    ∙ no_greater w (finmap.get h.entries w.name) (best (v ∷ []) w.name) below

module _ (p : List ℕ → Bool) where
  abbrev Below : Holdings → Entry → Type 0
  Below h e = p e.0 ≡ false → surpasses e.1 (finmap.get h.entries e.1.name) ≡ false

  skipped_by : (h : Holdings) (e : Entry) (es : List Entry) (b : Bool) → p e.0 ≡ b → IsCatalogue h.entries → Below h e
      → (joined (joined h (e.1 ∷ [])) (map (λ x. x.1) (where_key text_cmp p es)) ≡ joined (joined h (e.1 ∷ [])) (map (λ x. x.1) es)) → (joined h (map (λ x. x.1) (where_key text_cmp p es)) ≡ joined h (map (λ x. x.1) es))
      → joined h (map (λ x. x.1) (cond b (e ∷ where_key text_cmp p es) (where_key text_cmp p es))) ≡ joined h (e.1 ∷ map (λ x. x.1) es)
  skipped_by h e es true is named below with without =
      sym (joined_again h (e.1 ∷ []) (map (λ x. x.1) (where_key text_cmp p es))) ∙ with ∙ joined_again h (e.1 ∷ []) (map (λ x. x.1) es)
  skipped_by h e es false is named below with without =
      without ∙ ap (λ k. joined k (map (λ x. x.1) es)) (sym (joined-old h e.1 named (below is))) ∙ joined_again h (e.1 ∷ []) (map (λ x. x.1) es)

  skipped : (h : Holdings) (es : List Entry) → IsCatalogue h.entries → All (Below h) es → joined h (map (λ x. x.1) (where_key text_cmp p es)) ≡ joined h (map (λ x. x.1) es)
  skipped h [] named below = refl
  skipped h (e ∷ es) named below =
      let rest = All-tail (Below h) e es below in
      skipped_by h e es (p e.0) refl named (All-head (Below h) e es below)
      (skipped (joined h (e.1 ∷ [])) es (catalogue_of-IsCatalogue (finmap.values h.entries ++ e.1 ∷ [])) (λ k d lt there. stays_below h e.1 _ named (rest k d lt there)))
      (skipped h es named rest)

-- ---- what is no greater than what stands, by the order of maps

pub below_by : (w : StampedWrite) (o : Option StampedWrite) → IsSomeAnd o (λ v. write_cmp w v ≢ Greater) → surpasses w o ≡ false
below_by w None h = absurd h
below_by w (Some v) h = not_gt (write_cmp w v) h

pub same_told : (p : List ℕ → Bool) (q x : List ℕ) → text_cmp q x ≡ Equal → p x ≡ p q
same_told p q x tie = ap p (sym (text_cmp-IsAntisymmetric q x tie))

known_at : (to : Entries) (name : List ℕ) (w : StampedWrite) (stays : Bool) (here : Option StampedWrite) → here ≡ cond stays (Some w) None → stays ≡ true → IfSome here (λ v. IsSomeAnd (finmap.get to name) (λ u. write_cmp v u ≢ Greater)) → surpasses w (finmap.get to name) ≡ false
known_at to name w true here is yet h = below_by w (finmap.get to name) (subst (λ o. IfSome o (λ v. IsSomeAnd (finmap.get to name) (λ u. write_cmp v u ≢ Greater))) is h)
known_at to name w false here is yet h = absurd cc

-- an entry that didn't change after the mark is no greater than what stands where that is known
unchanged_below : (h to : Holdings) (mark : ℕ) → IsCatalogue h.entries → IsAbove to.entries (unchanged_after h mark) → (e : Entry) → finmap.get h.entries e.0 ≡ Some e.1 → is_above h mark e.0 ≡ false → surpasses e.1 (finmap.get to.entries e.1.name) ≡ false
unchanged_below h to mark named above e found not_above =
    let stays = λ (name : List ℕ). not (is_above h mark name) in
    let is : e.1.name ≡ e.0 = subst (λ o. IfSome o (λ w. w.name ≡ e.0)) found (named e.0) in
    let here = finmap.get-retain_keys h.entries stays e.0 (same_told stays e.0) ∙ ap (λ o. cond (stays e.0) o None) found in
    subst (λ name. surpasses e.1 (finmap.get to.entries name) ≡ false) (sym is) (known_at to.entries e.0 e.1 (stays e.0) _ here (ap not not_above) (above e.0))

-- what is kept of a map's entries
entries_kept : (m : Entries) (p : List ℕ → Bool) → finmap.entries (finmap.retain_keys m p) ≡ where_key text_cmp p (finmap.entries m)
entries_kept m p =
    let sorted = is_sorted-where_key text_cmp p (finmap.entries m) (finmap.entries_sorted m) in
    ap finmap.entries (same_entries (finmap.retain_keys m p) (finmap.from_sorted (where_key text_cmp p (finmap.entries m)))
    (λ q. finmap.get-retain_keys m p q (same_told p q) ∙ ap (λ o. cond (p q) o None) (finmap.get-entries m q) ∙ sym (find-where_key text_cmp p q (same_told p q) (finmap.entries m)) ∙ sym (finmap.get-from_sorted text_cmp (where_key text_cmp p (finmap.entries m)) q sorted)))
    ∙ finmap.entries-from_sorted text_cmp (where_key text_cmp p (finmap.entries m)) sorted

-- rule: marks
-- so what changed comes to the same as all
pub changed_are_all : (h to : Holdings) (mark : ℕ) → IsCatalogue h.entries → IsCatalogue to.entries → IsAbove to.entries (unchanged_after h mark) → joined to (changed_after h mark) ≡ joined to (finmap.values h.entries)
changed_are_all h to mark named kept above =
    ap (λ (es : List Entry). joined to (map (λ x. x.1) es)) (entries_kept h.entries (is_above h mark))
    ∙ skipped (is_above h mark) to (finmap.entries h.entries) kept (λ k d lt not_above. unchanged_below h to mark named above _ (entries_found h.entries k d lt) not_above)

same_rest : (c a b : ℕ) → c + a ≡ c + b → a ≡ b
same_rest c a b e = omega (arith, e)

pub same_growth : (h : Holdings) (v w : List StampedWrite) → joined h v ≡ joined h w → changes_by h v ≡ changes_by h w
same_growth h v w e = same_rest h.changes (changes_by h v) (changes_by h w) (ap (λ k. k.changes) e)
