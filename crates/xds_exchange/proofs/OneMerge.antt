-- Merges one after another, against one merge of all.
use Rattle.std.proofs.Common.{◌≡◌, ℕ, ◌+◌, List, [], ◌∷◌, ◌++◌, refl, sym, ap, subst, ◌∙◌, arith}
use Rattle.std.specs.List.{sum_by, flat_map}
use Rattle.std.specs.FinMap as finmap
use Rattle.xds_resource.specs.declared.types.TypeName.{TypeName}
use Rattle.xds_resource.specs.declared.types.TypeName.TheVariants.{Cluster, Endpoint, Listener, Route, Secret}
use Rattle.xds_resource.specs.PerType.{at}
use Rattle.xds_resource.specs.TypedWrites.{TypedWrite, writes_of}
use Rattle.xds_resource.specs.Types.{types}
use Rattle.xds_resource.proofs.TypesApart.{same_at_each_type, at-per_type}
use Rattle.xds_catalogue.specs.Holdings.{IsCatalogue}
use Rattle.xds_catalogue.specs.Joins.{joined, changes_by}
use Rattle.xds_catalogue.proofs.Catalogues.{catalogue_of-IsCatalogue}
use Rattle.xds_catalogue.proofs.Joining.{joined_again, changes_by-append}
use Rattle.xds_catalogue.proofs.OneWrite.{joined-none}
use Rattle.xds_message.specs.Batches.{by_type}
use Rattle.xds_message.proofs.BatchLemmas.{writes_of-append}
use Rattle.xds_core.specs.Stores.{Store, Batch, merged, grown}
use Rattle.xds_exchange.specs.Parts.{parts_of}
use Rattle.xds_exchange.proofs.Cutting.{parts_joined}
use Rattle.xds_exchange.specs.Laws.{PartsAreOneMerge}
use Rattle.xds_exchange.specs.Merges.{merged_by, grown_by}

-- each write stands under its own name, of each type
abbrev pub AreNamed : Store → Type 0
AreNamed s = (t : TypeName) → IsCatalogue (at s t).entries

pub at-merged : (s : Store) (b : Batch) (t : TypeName) → at (merged s b) t ≡ joined (at s t) (at b t)
at-merged s b t = at-per_type (λ u. joined (at s u) (at b u)) t

pub merged-named : (s : Store) (b : Batch) → AreNamed (merged s b)
merged-named s b t = subst (λ h. IsCatalogue h.entries) (sym (at-merged s b t)) (catalogue_of-IsCatalogue (finmap.values (at s t).entries ++ at b t))

at-by_type : (ws : List TypedWrite) (t : TypeName) → at (by_type ws) t ≡ writes_of t ws
at-by_type ws t = at-per_type (λ u. writes_of u ws) t

at-appended : (ps qs : List TypedWrite) (t : TypeName) → at (by_type ps) t ++ at (by_type qs) t ≡ at (by_type (ps ++ qs)) t
at-appended ps qs t = (λ i. at-by_type ps t i ++ at-by_type qs t i) ∙ sym (writes_of-append t ps qs) ∙ sym (at-by_type (ps ++ qs) t)

merged_twice : (s : Store) (ps qs : List TypedWrite) → merged (merged s (by_type ps)) (by_type qs) ≡ merged s (by_type (ps ++ qs))
merged_twice s ps qs =
    same_at_each_type (merged (merged s (by_type ps)) (by_type qs)) (merged s (by_type (ps ++ qs)))
    (λ t. at-merged (merged s (by_type ps)) (by_type qs) t ∙ ap (λ h. joined h (at (by_type qs) t)) (at-merged s (by_type ps) t) ∙ joined_again (at s t) (at (by_type ps) t) (at (by_type qs) t)
    ∙ ap (joined (at s t)) (at-appended ps qs t) ∙ sym (at-merged s (by_type (ps ++ qs)) t))

merged_none : (s : Store) → AreNamed s → merged s (by_type []) ≡ s
merged_none s named = same_at_each_type (merged s (by_type [])) s (λ t. at-merged s (by_type []) t ∙ ap (joined (at s t)) (at-by_type [] t) ∙ joined-none (at s t) (named t))

pub merged_by-joined : (s : Store) (ps : List (List TypedWrite)) → AreNamed s → merged_by s ps ≡ merged s (by_type (flat_map (λ p. p) ps))
merged_by-joined s [] named = sym (merged_none s named)
merged_by-joined s (p ∷ ps) named = merged_by-joined (merged s (by_type p)) ps (merged-named s (by_type p)) ∙ merged_twice s p (flat_map (λ q. q) ps)

-- ---- how much they change

sum_of_sums : (a b c d e f g h i j : ℕ) → (((((0 + (a + b)) + (c + d)) + (e + f)) + (g + h)) + (i + j)) ≡ (((((0 + a) + c) + e) + g) + i) + (((((0 + b) + d) + f) + h) + j)
sum_of_sums a b c d e f g h i j = omega arith

sum_both : (f g : TypeName → ℕ) → sum_by (λ t. f t + g t) types ≡ sum_by f types + sum_by g types
sum_both f g = sum_of_sums (f Cluster) (g Cluster) (f Endpoint) (g Endpoint) (f Listener) (g Listener) (f Route) (g Route) (f Secret) (g Secret)

grown_twice : (s : Store) (ps qs : List TypedWrite) → grown s (by_type (ps ++ qs)) ≡ grown s (by_type ps) + grown (merged s (by_type ps)) (by_type qs)
grown_twice s ps qs =
    let one = λ (t : TypeName). ap (changes_by (at s t)) (sym (at-appended ps qs t)) ∙ changes_by-append (at s t) (at (by_type ps) t) (at (by_type qs) t)
    ∙ ap (λ h. changes_by (at s t) (at (by_type ps) t) + changes_by h (at (by_type qs) t)) (sym (at-merged s (by_type ps) t)) in
    ap (λ f. sum_by f types) (λ i t. one t i) ∙ sum_both (λ t. changes_by (at s t) (at (by_type ps) t)) (λ t. changes_by (at (merged s (by_type ps)) t) (at (by_type qs) t))

pub grown_by-joined : (s : Store) (ps : List (List TypedWrite)) → grown_by s ps ≡ grown s (by_type (flat_map (λ p. p) ps))
grown_by-joined s [] = refl
grown_by-joined s (p ∷ ps) = ap (λ n. grown s (by_type p) + n) (grown_by-joined (merged s (by_type p)) ps) ∙ sym (grown_twice s p (flat_map (λ q. q) ps))

-- rule: greatest-write
pub parts_one_merge : PartsAreOneMerge
parts_one_merge s ws kept = (
  merged_by-joined s (parts_of ws) (λ t. (kept t).0) ∙ ap (λ xs. merged s (by_type xs)) (parts_joined ws),
  grown_by-joined s (parts_of ws) ∙ ap (λ xs. grown s (by_type xs)) (parts_joined ws),
)
