-- Which resources a concern covers.
use Rattle.std.proofs.Common.{◌≡◌, ⊎_elim, ℕ, List, Bool, true, false, ◌&&◌, ◌||◌, refl, sym, ap, ◌∙◌}
use Rattle.std.specs.Prelude.{if◌then◌else◌}
use Rattle.std.specs.Bool.{OnTrue}
use Rattle.std.specs.Cmp.{nat_cmp_total}
use Rattle.std.specs.Ordering.{nat_cmp}
use Rattle.std.specs.FinSet as set
use Rattle.std.proofs.lemmas.Bool.{and_parts, and_from, or_cases, or_left, or_right, both_ways}
use Rattle.xds_resource.specs.declared.types.TypeName.{TypeName}
use Rattle.xds_resource.specs.declared.types.TypeName.TheVariants.{Cluster, Endpoint, Listener, Route, Secret}
use Rattle.xds_resource.specs.PerType.{PerType, at, each}
use Rattle.xds_node.specs.Concerns.{set_of, joined, meets, covers, IsInBoth, may_meet}
use Rattle.xds_node.specs.Gathered.{has}
use Rattle.xds_node.specs.Prints.{print}
use Rattle.xds_node.specs.declared.node.concern.Concern.{Concern}
use Rattle.xds_node.specs.declared.node.concerns.TypeSet.{TypeSet}
use Rattle.xds_node.specs.declared.node.gathered.Gathered.{Gathered}
use Rattle.xds_node.proofs.Fingerprints.{contains-of_list, contains-both, shares_it, of_list}

-- ---- sets of types

pub at-joined : (p q : PerType Bool) (t : TypeName) → at (joined p q) t ≡ (at p t || at q t)
at-joined p q Cluster = refl
at-joined p q Endpoint = refl
at-joined p q Listener = refl
at-joined p q Route = refl
at-joined p q Secret = refl

-- a type that is in both
pub meets_at : (p q : PerType Bool) (t : TypeName) → at p t ≡ true → at q t ≡ true → meets p q ≡ true
meets_at p q Cluster one other = or_left _ _ (or_left _ _ (or_left _ _ (and_from _ _ one other)))
meets_at p q Endpoint one other = or_left _ _ (or_left _ _ (or_right (p.cluster && q.cluster) _ (and_from _ _ one other)))
meets_at p q Listener one other = or_left _ _ (or_right ((p.cluster && q.cluster) || (p.endpoint && q.endpoint)) _ (and_from _ _ one other))
meets_at p q Route one other = or_right (((p.cluster && q.cluster) || (p.endpoint && q.endpoint)) || (p.listener && q.listener)) _ (or_left _ _ (and_from _ _ one other))
meets_at p q Secret one other =
    or_right (((p.cluster && q.cluster) || (p.endpoint && q.endpoint)) || (p.listener && q.listener)) _ (or_right (p.route && q.route) _ (and_from _ _ one other))

-- ---- what is covered

-- the type of what is covered, and why it is
pub covered_by : (c : Concern) (t : TypeName) (name : List ℕ) → covers c t name ≡ true → (at (set_of c.types) t ≡ true) × ((at (set_of c.whole) t || set.contains c.names (print t name)) ≡ true)
covered_by c t name is = and_parts (at (set_of c.types) t) (at (set_of c.whole) t || set.contains c.names (print t name)) is

pub never_fewer : (a b : Concern) (t : TypeName) (name : List ℕ) → IsInBoth a b t name → may_meet a b ≡ true
never_fewer a b t name both =
    let one = covered_by a t name both.0 in
    let other = covered_by b t name both.1 in
    let p = print t name in
    and_from _ _ (meets_at (set_of a.types) (set_of b.types) t one.0 other.0)
    (⊎_elim
    (λ whole. or_left _ _ (or_left _ _ (meets_at (set_of a.whole) (set_of b.types) t whole other.0)))
    (λ named. ⊎_elim
    (λ whole. or_left _ _ (or_right (meets (set_of a.whole) (set_of b.types)) _ (meets_at (set_of a.types) (set_of b.whole) t one.0 whole)))
    (λ also. or_right (meets (set_of a.whole) (set_of b.types) || meets (set_of a.types) (set_of b.whole)) _ (shares_it a.names b.names p named also))
    (or_cases (at (set_of b.whole) t) (set.contains b.names p) other.1))
    (or_cases (at (set_of a.whole) t) (set.contains a.names p) one.1))

-- names that were gathered
pub gathered_covers : (types whole : TypeSet) (names : set.FinSet nat_cmp) (g : Gathered) (t : TypeName) (name : List ℕ) → set_of whole ≡ (if g.all then set_of types else each false)
    → names ≡ of_list g.prints.items → at (set_of types) t ≡ true → has g (print t name) ≡ true → (at (set_of types) t && (at (set_of whole) t || set.contains names (print t name))) ≡ true
gathered_covers types whole names g t name is_whole is_named of_type gathered =
    and_from _ _ of_type
    (⊎_elim
    (λ all. or_left _ _ (ap (λ p. at p t) (is_whole ∙ ap (λ (b : Bool). if b then set_of types else each false) all) ∙ of_type))
    (λ listed. or_right (at (set_of whole) t) _ (ap (λ s. set.contains s (print t name)) is_named ∙ contains-of_list g.prints.items (print t name) ∙ listed))
    (or_cases g.all _ gathered))

-- of the types of which the other doesn't have all names
within_covers : (a b : Concern) → set.is_subset b.names a.names ≡ true → (t : TypeName) (name : List ℕ) → at (set_of a.types) t ≡ true → at (set_of b.whole) t ≡ false → covers b t name ≡ true
    → covers a t name ≡ true
within_covers a b within t name of_type some is =
    and_from _ _ of_type (or_right (at (set_of a.whole) t) _
    (set.is_subset-contains nat_cmp_total b.names a.names within (print t name)
    (⊎_elim (λ whole. absurd (both_ways _ some whole)) (λ named. named) (or_cases (at (set_of b.whole) t) _ (covered_by b t name is).1))))

pub names_cover : (a b : Concern) (ok : Bool) → ok ≡ set.is_subset b.names a.names
    → OnTrue ok ((t : TypeName) (name : List ℕ) → at (set_of a.types) t ≡ true → at (set_of b.whole) t ≡ false → covers b t name ≡ true → covers a t name ≡ true)
names_cover a b true within = within_covers a b (sym within)
names_cover a b false within = tt

-- what is joined covers all that either did
pub both_cover : (a b : Concern) (types whole : TypeSet) (names : set.FinSet nat_cmp) (t : TypeName) (name : List ℕ) → set_of types ≡ joined (set_of a.types) (set_of b.types)
    → set_of whole ≡ joined (set_of a.whole) (set_of b.whole) → names ≡ set.union a.names b.names → (covers a t name || covers b t name) ≡ true
    → (at (set_of types) t && (at (set_of whole) t || set.contains names (print t name))) ≡ true
both_cover a b types whole names t name is_types is_whole is_named either =
    let p = print t name in
    let of_types = ap (λ q. at q t) is_types ∙ at-joined (set_of a.types) (set_of b.types) t in
    let of_whole = ap (λ q. at q t) is_whole ∙ at-joined (set_of a.whole) (set_of b.whole) t in
    let of_names = ap (λ s. set.contains s p) is_named ∙ contains-both a.names b.names p in
    ⊎_elim
    (λ one. let by = covered_by a t name one in
    and_from _ _ (of_types ∙ or_left _ _ by.0)
    (⊎_elim (λ w. or_left _ _ (of_whole ∙ or_left _ _ w)) (λ n. or_right (at (set_of whole) t) _ (of_names ∙ or_left _ _ n)) (or_cases (at (set_of a.whole) t) (set.contains a.names p) by.1)))
    (λ other. let by = covered_by b t name other in
    and_from _ _ (of_types ∙ or_right (at (set_of a.types) t) _ by.0)
    (⊎_elim (λ w. or_left _ _ (of_whole ∙ or_right (at (set_of a.whole) t) _ w)) (λ n. or_right (at (set_of whole) t) _ (of_names ∙ or_right (set.contains a.names p) _ n))
    (or_cases (at (set_of b.whole) t) (set.contains b.names p) by.1)))
    (or_cases (covers a t name) (covers b t name) either)
