-- What a peer knows: the changes above its marks come to the same as all, and all is known afterwards.
use Rattle.std.proofs.Common.{◌≡◌, ◌≢◌, ℕ, ◌≤◌, List, ◌++◌, Bool, true, false, not, cond, Option, Some, None, is_some, refl, sym, ap, subst, ◌∙◌, arith}
use Rattle.std.specs.Prelude.{IfSome, IsSomeAnd, nat_lt}
use Rattle.std.specs.declared.cmp.Ordering.TheVariants.{Greater}
use Rattle.std.specs.FinMap as finmap
use Rattle.std.specs.List.{sum_by}
use Rattle.std.specs.Option.{option_map_or}
use Rattle.std.proofs.lemmas.Bool.{lt-ltb}
use Rattle.xds_resource.specs.declared.types.TypeName.{TypeName}
use Rattle.xds_resource.specs.PerType.{PerType, at, each}
use Rattle.xds_resource.specs.Types.{types}
use Rattle.xds_resource.specs.Writes.{StampedWrite, write_cmp}
use Rattle.xds_resource.specs.Best.{greater, best}
use Rattle.xds_resource.proofs.BestWrites.{best_of_both, not_Greater}
use Rattle.xds_resource.proofs.TypesApart.{same_at_each_type, at-each, at-per_type}
use Rattle.xds_catalogue.specs.Holdings.{Entries, Holdings, IsCatalogue, IsNumbered}
use Rattle.xds_catalogue.specs.Changes.{surpasses}
use Rattle.xds_catalogue.specs.Joins.{join, joined, IsAbove}
use Rattle.xds_catalogue.proofs.Catalogues.{get-catalogue_of, best-values}
use Rattle.xds_catalogue.proofs.JoinLaws.{join_is_above}
use Rattle.xds_core.specs.Since.{is_above, changed_after, changed_since}
use Rattle.xds_core.specs.Stores.{Store, merged, all_entries}
use Rattle.xds_exchange.specs.Laws.{ChangesAreAll, AllIsKnown, ZerosKnowNothing, MergesKeepKnowing}
use Rattle.xds_exchange.specs.Rounds.{unchanged_after, Knows, IsKept}
use Rattle.xds_exchange.proofs.OneMerge.{at-merged}
use Rattle.xds_exchange.proofs.Skipping.{changed_are_all, same_growth, same_told, no_greater, below_by}

at-changed : (from : Store) (marks : PerType ℕ) (t : TypeName) → at (changed_since from marks) t ≡ changed_after (at from t) (at marks t)
at-changed from marks t = at-per_type (λ u. changed_after (at from u) (at marks u)) t

at-entries : (from : Store) (t : TypeName) → at (all_entries from) t ≡ finmap.values (at from t).entries
at-entries from t = at-per_type (λ u. finmap.values (at from u).entries) t

same_joined : (from to : Store) (marks : PerType ℕ) → IsKept from → IsKept to → Knows from marks to → (t : TypeName) → joined (at to t) (at (changed_since from marks) t) ≡ joined (at to t) (at (all_entries from) t)
same_joined from to marks kept_from kept_to knows t =
    ap (joined (at to t)) (at-changed from marks t) ∙ changed_are_all (at from t) (at to t) (at marks t) (kept_from t).0 (kept_to t).0 (knows t) ∙ ap (joined (at to t)) (sym (at-entries from t))

-- rule: marks
pub changes_all : ChangesAreAll
changes_all from to marks kept_from kept_to knows =
    let same = same_joined from to marks kept_from kept_to knows in (
      same_at_each_type (merged to (changed_since from marks)) (merged to (all_entries from)) (λ t. at-merged to (changed_since from marks) t ∙ same t ∙ sym (at-merged to (all_entries from) t)),
      ap (λ f. sum_by f types) (λ i t. same_growth (at to t) (at (changed_since from marks) t) (at (all_entries from) t) (same t) i),
    )

-- ---- what is known afterwards

pub entries_joined : (from to : Store) (t : TypeName) → (at (merged to (all_entries from)) t).entries ≡ join (at to t).entries (at from t).entries
entries_joined from to t = ap (λ h. h.entries) (at-merged to (all_entries from) t ∙ ap (joined (at to t)) (at-entries from t))

kept_or_not : {X : Type 0} (Q : X → Type 0) (b : Bool) (o : Option X) → IfSome o Q → IfSome (cond b o None) Q
kept_or_not Q true o h = h
kept_or_not Q false o h = tt

above_part : (m n : Entries) (p : List ℕ → Bool) → IsAbove m n → IsAbove m (finmap.retain_keys n p)
above_part m n p above name =
    let Q = λ (v : StampedWrite). IsSomeAnd (finmap.get m name) (λ w. write_cmp v w ≢ Greater) in
    subst (λ o. IfSome o Q) (sym (finmap.get-retain_keys n p name (same_told p name))) (kept_or_not Q (p name) (finmap.get n name) (above name))

-- rule: marks
pub all_known : AllIsKnown
all_known from to marks kept_from kept_to t =
    let above = (join_is_above (at to t).entries (at from t).entries (kept_to t).0 (kept_from t).0).1 in
    subst (λ m. IsAbove m (unchanged_after (at from t) (at marks t))) (sym (entries_joined from to t)) (above_part _ (at from t).entries (λ name. not (is_above (at from t) (at marks t) name)) above)

-- ---- with no marks

no_entry : (b : Bool) → ◌≡◌ {A = Option StampedWrite} (cond b None None) None
no_entry true = refl
no_entry false = refl

zero_at : (n : ℕ) (o : Option StampedWrite) (l : Option ℕ) → is_some l ≡ is_some o → IfSome l (λ k. (1 ≤ k) × (k ≤ n)) → cond (not (option_map_or (nat_lt 0) l false)) o None ≡ None
zero_at n None l same counted = no_entry (not (option_map_or (nat_lt 0) l false))
zero_at n (Some w) None same counted = absurd cc
zero_at n (Some w) (Some k) same counted = ap (λ b. cond (not b) (Some w) None) (lt-ltb 0 k (omega (arith, counted.0)))

zero_below : (h : Holdings) (to : Entries) → IsNumbered h → IsAbove to (unchanged_after h 0)
zero_below h to numbered name =
    let stays = λ (q : List ℕ). not (is_above h 0 q) in
    subst (λ o. IfSome o (λ v. IsSomeAnd (finmap.get to name) (λ w. write_cmp v w ≢ Greater)))
    (sym (finmap.get-retain_keys h.entries stays name (same_told stays name) ∙ zero_at h.changes (finmap.get h.entries name) (finmap.get h.latest name) (numbered.each name) (numbered.counted name))) tt

-- rule: marks
pub zeros_know : ZerosKnowNothing
zeros_know from to kept t = subst (λ n. IsAbove (at to t).entries (unchanged_after (at from t) n)) (sym (at-each 0 t)) (zero_below (at from t) (at to t).entries (kept t).1)

-- ---- what is merged later

no_less : (v : StampedWrite) (o : Option StampedWrite) → surpasses v o ≡ false → IsSomeAnd o (λ w. write_cmp v w ≢ Greater)
no_less v None e = absurd cc
no_less v (Some w) e = not_Greater (write_cmp v w) e

still_there : (v : StampedWrite) (a b : Option StampedWrite) → IsSomeAnd a (λ w. write_cmp v w ≢ Greater) → IsSomeAnd (greater a b) (λ w. write_cmp v w ≢ Greater)
still_there v a b h = no_less v (greater a b) (no_greater v a b (below_by v a h))

weaker : {X : Type 0} (P Q : X → Type 0) (o : Option X) → ((x : X) → P x → Q x) → IfSome o P → IfSome o Q
weaker P Q None to h = tt
weaker P Q (Some x) to h = to x h

pub above_joined : (h : Holdings) (ws : List StampedWrite) (n : Entries) → IsCatalogue h.entries → IsAbove h.entries n → IsAbove (joined h ws).entries n
above_joined h ws n named above name =
    let here = get-catalogue_of (finmap.values h.entries ++ ws) name ∙ best_of_both (finmap.values h.entries) ws name ∙ ap (λ o. greater o (best ws name)) (best-values h.entries named name) in
    weaker _ _ (finmap.get n name) (λ v yet. subst (λ o. IsSomeAnd o (λ w. write_cmp v w ≢ Greater)) (sym here) (still_there v (finmap.get h.entries name) (best ws name) yet)) (above name)

-- rule: marks
pub merges_keep : MergesKeepKnowing
merges_keep from to marks writes kept knows t =
    subst (λ h. IsAbove h.entries (unchanged_after (at from t) (at marks t))) (sym (at-merged to writes t)) (above_joined (at to t) (at writes t) (unchanged_after (at from t) (at marks t)) (kept t).0 (knows t))
