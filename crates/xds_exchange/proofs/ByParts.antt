-- A loop that merges part by part.
use Rattle.std.proofs.Common.{◌≡◌, ◌≢◌, ◌⊎◌, inl, inr, ℕ, ◌+◌, ◌≤◌, ◌<◌, suc, List, [], ◌∷◌, ◌++◌, length, Bool, true, false, cond, Some, None, Ok, Err, refl, sym, ap, ◌∙◌, arith, append_assoc, append-nil, length-append}
use Rattle.std.specs.List.{flat_map}
use Rattle.std.proofs.lemmas.Grind.{flat_map-append}
use Rattle.std.proofs.Math.Nat.{add_assoc}
use Rattle.xds_resource.specs.declared.types.TypeName.TheVariants.{Cluster, Endpoint, Listener, Route, Secret}
use Rattle.xds_resource.specs.declared.refusal.Refusal.{Refusal}
use Rattle.xds_resource.specs.declared.refusal.Refusal.TheVariants.{OutOfMemory, CounterSpent}
use Rattle.xds_resource.specs.TypedWrites.{TypedWrite, writes_of}
use Rattle.xds_resource.proofs.Refusing.{memory_or_not}
use Rattle.xds_catalogue.proofs.News.{changes_after-le}
use Rattle.std.specs.FinMap as finmap
use Rattle.xds_message.specs.Batches.{by_type}
use Rattle.xds_core.specs.Stores.{Store, Batch, merged, grown, is_spent, if_done}
use Rattle.xds_core.specs.Events.{Merge, Reply, Merged}
use Rattle.xds_core.specs.Steps.{Core, Step, step}
use Rattle.xds_exchange.specs.Parts.{parts_behind, parts_of, is_part, IsNextPart}
use Rattle.xds_exchange.proofs.Cutting.{parts_joined}
use Rattle.xds_exchange.specs.Merges.{merged_by, grown_by, holding, AllMerged, IsStopped}

-- ---- a step

abbrev growth_of : Reply → ℕ
growth_of (Merged n) = n
growth_of r = 0

-- what a merge answers and leaves, where it wasn't refused
abbrev made_by : Core → Step → ℕ × Core
made_by c (Ok p) = (growth_of p.0, p.1)
made_by c (Err e) = (0, c)

step_at : (c : Core) (b : Batch) (n : ℕ) (after : Core) (spent : Bool) → if_done {Y = Reply × Core} (λ (p : ℕ × Store). (Merged p.0, holding c p.1)) (cond spent (Err CounterSpent) (Ok (grown c.store b, merged c.store b))) ≡ Ok (Merged n, after)
    → (n ≡ grown c.store b) × (after ≡ holding c (merged c.store b))
step_at c b n after true e = absurd cc
step_at c b n after false e = (sym (ap (λ s. (made_by c s).0) e), sym (ap (λ s. (made_by c s).1) e))

pub merge_made : (c : Core) (b : Batch) (n : ℕ) (after : Core) → step c (Merge b) ≡ Ok (Merged n, after) → (n ≡ grown c.store b) × (after ≡ holding c (merged c.store b))
merge_made c b n after e = step_at c b n after (is_spent c.store b) e

-- ---- one part more

merged_by-push : (s : Store) (ps : List (List TypedWrite)) (p : List TypedWrite) → merged_by s (ps ++ p ∷ []) ≡ merged (merged_by s ps) (by_type p)
merged_by-push s [] p = refl
merged_by-push s (q ∷ ps) p = merged_by-push (merged s (by_type q)) ps p

add_none : (n : ℕ) → n + 0 ≡ 0 + n
add_none n = omega arith

grown_by-push : (s : Store) (ps : List (List TypedWrite)) (p : List TypedWrite) → grown_by s (ps ++ p ∷ []) ≡ grown_by s ps + grown (merged_by s ps) (by_type p)
grown_by-push s [] p = add_none (grown s (by_type p))
grown_by-push s (q ∷ ps) p = ap (λ n. grown s (by_type q) + n) (grown_by-push (merged s (by_type q)) ps p) ∙ sym (add_assoc (grown s (by_type q)) (grown_by (merged s (by_type q)) ps) (grown (merged_by (merged s (by_type q)) ps) (by_type p)))

-- ---- what is kept from part to part

pub record Merging (before : Core) (ws : List TypedWrite) (parts growth : ℕ) (now : Core) (left : List TypedWrite) : Type 0 where
  pub done : List (List TypedWrite)
  pub cut : parts_of ws ≡ done ++ parts_of left
  pub counted : parts ≡ length done
  pub grows : growth ≡ grown_by before.store done
  pub is : now ≡ holding before (merged_by before.store done)

module _ (c : Core) (ws : List TypedWrite) (parts growth : ℕ) (now : Core) (left : List TypedWrite) (h : Merging c ws parts growth now left) where
  cut_on : (p left_then : List TypedWrite) → parts_of left ≡ p ∷ parts_of left_then → parts_of ws ≡ (h.done ++ p ∷ []) ++ parts_of left_then
  cut_on p left_then e = h.cut ∙ ap (λ ps. h.done ++ ps) e ∙ sym (append_assoc h.done (p ∷ []) (parts_of left_then))

  pub merging_on : (b : Batch) (left_then : List TypedWrite) (n : ℕ) (then_is : Core) → IsNextPart left (Some b) left_then → step now (Merge b) ≡ Ok (Merged n, then_is) → Merging c ws (parts + 1) (growth + n) then_is left_then
  merging_on b left_then n then_is next stepped =
      let p = next.0 in
      let made = merge_made now b n then_is stepped in
      let store_is = ap (λ (k : Core). k.store) h.is in
      let batch_is = sym next.5 in
      let merged_is = (λ i. merged (store_is i) (batch_is i)) ∙ sym (merged_by-push c.store h.done p) in
      record {
        done = h.done ++ p ∷ [];
        cut = cut_on p left_then next.1;
        counted = omega (arith, h.counted, length-append h.done (p ∷ []));
        grows = (λ i. h.grows i + (made.0 ∙ (λ j. grown (store_is j) (batch_is j))) i) ∙ sym (grown_by-push c.store h.done p);
        is = made.1 ∙ (λ i. holding (h.is i) (merged_is i));
      }

  pub merging_ends : (left_then : List TypedWrite) → IsNextPart left None left_then → AllMerged c ws parts growth now
  merging_ends left_then next =
      let all = h.cut ∙ ap (λ l. h.done ++ parts_of l) next.0 ∙ append-nil h.done in
      record {
        counted = h.counted ∙ ap length (sym all);
        grows = h.grows ∙ ap (grown_by c.store) (sym all);
        left = h.is ∙ ap (λ ps. holding c (merged_by c.store ps)) (sym all);
      }

  pub no_memory_left : IsStopped c ws OutOfMemory now
  no_memory_left = record { done = h.done; rest = parts_of left; cut = h.cut; left = h.is; why = inl refl }

  why_not : (b : Batch) (left_then : List TypedWrite) (e : Refusal) (next : IsNextPart left (Some b) left_then) → (e ≢ OutOfMemory → step now (Merge b) ≡ Err e) → (e ≡ OutOfMemory) ⊎ (e ≢ OutOfMemory)
      → (e ≡ OutOfMemory) ⊎ ((p : List TypedWrite) × (ps : List (List TypedWrite)) × (next.0 ∷ parts_of left_then ≡ p ∷ ps) × (step now (Merge (by_type p)) ≡ Err e))
  why_not b left_then e next refused (inl memory) = inl memory
  why_not b left_then e next refused (inr other) = inr (next.0, parts_of left_then, refl, ap (λ x. step now (Merge x)) next.5 ∙ refused other)

  pub merging_stops : (b : Batch) (left_then : List TypedWrite) (e : Refusal) → IsNextPart left (Some b) left_then → (e ≢ OutOfMemory → step now (Merge b) ≡ Err e) → IsStopped c ws e now
  merging_stops b left_then e next refused = record {
    done = h.done;
    rest = next.0 ∷ parts_of left_then;
    cut = h.cut ∙ ap (λ ps. h.done ++ ps) next.1;
    left = h.is;
    why = why_not b left_then e next refused (memory_or_not e);
  }

-- ---- counts stay small

few_by : (b : Bool) (part : List TypedWrite) (ps qs : List (List TypedWrite)) (n : ℕ) → length ps ≤ suc n → length qs ≤ suc n → length (cond b ps (part ∷ qs)) ≤ suc (suc n)
few_by true part ps qs n same next = omega (arith, same)
few_by false part ps qs n same next = omega (arith, next)

few_behind : (part xs : List TypedWrite) → length (parts_behind part xs) ≤ suc (length xs)
few_behind part [] = omega arith
few_behind part (x ∷ xs) = few_by (is_part (part ++ x ∷ [])) part (parts_behind (part ++ x ∷ []) xs) (parts_behind (x ∷ []) xs) (length xs) (few_behind (part ++ x ∷ []) xs) (few_behind (x ∷ []) xs)

parts_few : (ws : List TypedWrite) → length (parts_of ws) ≤ length ws
parts_few [] = omega arith
parts_few (x ∷ xs) = few_behind (x ∷ []) xs

all_types : (ws : List TypedWrite) → length (writes_of Cluster ws) + length (writes_of Endpoint ws) + length (writes_of Listener ws) + length (writes_of Route ws) + length (writes_of Secret ws) ≡ length ws
all_types [] = refl
all_types ((Cluster, w) ∷ ws) = omega (arith, all_types ws)
all_types ((Endpoint, w) ∷ ws) = omega (arith, all_types ws)
all_types ((Listener, w) ∷ ws) = omega (arith, all_types ws)
all_types ((Route, w) ∷ ws) = omega (arith, all_types ws)
all_types ((Secret, w) ∷ ws) = omega (arith, all_types ws)

grown_few : (s : Store) (p : List TypedWrite) → grown s (by_type p) ≤ length p
grown_few s p =
    omega (
      arith,
      all_types p,
      changes_after-le (finmap.values s.cluster.entries) (writes_of Cluster p),
      changes_after-le (finmap.values s.endpoint.entries) (writes_of Endpoint p),
      changes_after-le (finmap.values s.listener.entries) (writes_of Listener p),
      changes_after-le (finmap.values s.route.entries) (writes_of Route p),
      changes_after-le (finmap.values s.secret.entries) (writes_of Secret p),
    )

grown_by_few : (s : Store) (ps : List (List TypedWrite)) → grown_by s ps ≤ length (flat_map (λ p. p) ps)
grown_by_few s [] = omega arith
grown_by_few s (p ∷ ps) = omega (arith, grown_few s p, grown_by_few (merged s (by_type p)) ps, length-append p (flat_map (λ q. q) ps))

-- what was merged so far is no more than there was
pub merging_few : (c : Core) (ws : List TypedWrite) (parts growth : ℕ) (now : Core) (left : List TypedWrite) → Merging c ws parts growth now left → (parts ≤ length ws) × (growth ≤ length ws)
merging_few c ws parts growth now left h =
    let joined = sym (parts_joined ws) ∙ ap (flat_map (λ p. p)) h.cut ∙ flat_map-append (λ p. p) h.done (parts_of left) in
    let sizes = ap length joined ∙ length-append (flat_map (λ p. p) h.done) (flat_map (λ p. p) (parts_of left)) in
    let counts = ap length h.cut ∙ length-append h.done (parts_of left) in
    (omega (arith, parts_few ws, counts, h.counted), omega (arith, sizes, h.grows, grown_by_few c.store h.done))

-- a part that is taken leaves fewer
pub fewer_left : (left left_then : List TypedWrite) (b : Batch) → IsNextPart left (Some b) left_then → length left_then < length left
fewer_left left left_then b next = let sizes = ap length (sym next.2) ∙ length-append next.0 left_then in omega (arith, sizes, next.4)
