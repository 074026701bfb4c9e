-- A write against the best of several.
use Rattle.std.proofs.Common.{◌≡◌, ℕ, ◌+◌, ◌<◌, List, [], ◌∷◌, ◌++◌, length, take, drop, get_or, Bool, true, false, not, cond, Option, Some, None, Ordering, refl, sym, ap, ◌∙◌}
use Rattle.std.specs.Prelude.{◌&&◌, bytes_eq, eqb, if◌then◌else◌}
use Rattle.std.specs.declared.cmp.Ordering.TheVariants.{Less, Equal, Greater}
use Rattle.std.specs.Ordering.{is_lt, is_gt, ordering_reverse, ordering_index}
use Rattle.std.specs.Cmp.{IsTotalOrder}
use Rattle.std.proofs.lemmas.List.{take_more, take-append-drop}
use Rattle.std.proofs.Math.Bool.{and-true}
use Rattle.xds_resource.specs.Writes.{StampedWrite, write_cmp}
use Rattle.xds_resource.specs.WriteOrder.{write_cmp_total}
use Rattle.xds_resource.specs.Best.{greater, if_named, best}
use Rattle.xds_resource.proofs.BestWrites.{best_of_both}
use Rattle.xds_catalogue.specs.Changes.{surpasses}
use Rattle.xds_catalogue.proofs.News.{best-push}

gt_told : (r : Ordering) → is_gt r ≡ true → r ≡ Greater
gt_told Less e = absurd cc
gt_told Equal e = absurd cc
gt_told Greater e = refl

left_alone : (p q : Bool) → (p ≡ true → q ≡ true) → p ≡ (p && q)
left_alone true q h = sym (h refl)
left_alone false q h = refl

right_alone : (p q : Bool) → (q ≡ true → p ≡ true) → q ≡ (p && q)
right_alone true q h = refl
right_alone false true h = absurd (let none = h refl in cc)
right_alone false false h = refl

module _ {K : Type 0} {R : K → K → Ordering} (o : IsTotalOrder R) where
  below : (a w : K) → is_gt (R w a) ≡ true → R a w ≡ Less
  below a w h = o.antisymm a w ∙ ap ordering_reverse (gt_told (R w a) h)

  above : (a w : K) → R a w ≡ Less → is_gt (R w a) ≡ true
  above a w h = ap is_gt (o.antisymm w a ∙ ap ordering_reverse h)

  above_max : (w a b : K) (r : Ordering) → R b a ≡ r → is_gt (R w (cond (is_lt r) a b)) ≡ (is_gt (R w a) && is_gt (R w b))
  above_max w a b Less is = left_alone (is_gt (R w a)) (is_gt (R w b)) (λ h. above b w (o.trans b a w is (below a w h)))
  above_max w a b Equal is = right_alone (is_gt (R w a)) (is_gt (R w b)) (λ h. above a w (sym (o.congr b a w is) ∙ below b w h))
  above_max w a b Greater is = right_alone (is_gt (R w a)) (is_gt (R w b)) (λ h. above a w (o.trans a b w (o.antisymm a b ∙ ap ordering_reverse is) (below b w h)))

-- a write is greater than the greater of two where it is greater than both
pub surpasses-greater : (w : StampedWrite) (a b : Option StampedWrite) → surpasses w (greater a b) ≡ (surpasses w a && surpasses w b)
surpasses-greater w None b = refl
surpasses-greater w (Some v) None = sym (and-true _)
surpasses-greater w (Some v) (Some u) = above_max write_cmp_total w v u (write_cmp u v) refl

surpasses_named : (w v : StampedWrite) (b c : Bool) → bytes_eq v.name w.name ≡ b → is_gt (write_cmp w v) ≡ c → surpasses w (if_named w.name v) ≡ (if b then c else true)
surpasses_named w v true c named is = ap (λ b. surpasses w (if b then Some v else None)) named ∙ is
surpasses_named w v false c named is = ap (λ b. surpasses w (if b then Some v else None)) named

-- one write more to be greater than
surpasses_push : (w : StampedWrite) (vs : List StampedWrite) (v : StampedWrite) (b : Bool) → surpasses w (if_named w.name v) ≡ b → surpasses w (best vs w.name) ≡ true → surpasses w (best (vs ++ v ∷ []) w.name) ≡ b
surpasses_push w vs v b one all = ap (surpasses w) (best-push vs v w.name) ∙ surpasses-greater w (best vs w.name) (if_named w.name v) ∙ (λ i. all i && one i)

surpasses_more : (w : StampedWrite) (vs : List StampedWrite) (i : ℕ) (v : StampedWrite) (b : Bool) → i < length vs → v ≡ get_or vs i v → surpasses w (if_named w.name v) ≡ b → surpasses w (best (take i vs) w.name) ≡ true
    → surpasses w (best (take (i + 1) vs) w.name) ≡ b
surpasses_more w vs i v b within is one all = ap (λ l. surpasses w (best l w.name)) (take_more vs i v within ∙ ap (λ x. take i vs ++ x ∷ []) (sym is)) ∙ surpasses_push w (take i vs) v b one all

pub surpasses_other : (w : StampedWrite) (vs : List StampedWrite) (i : ℕ) (v : StampedWrite) → i < length vs → v ≡ get_or vs i v → bytes_eq v.name w.name ≡ false → surpasses w (best (take i vs) w.name) ≡ true
    → surpasses w (best (take (i + 1) vs) w.name) ≡ true
surpasses_other w vs i v within is other all = surpasses_more w vs i v true within is (surpasses_named w v false _ other refl) all

pub surpasses_lesser : (w : StampedWrite) (vs : List StampedWrite) (i : ℕ) (v : StampedWrite) → i < length vs → v ≡ get_or vs i v → bytes_eq v.name w.name ≡ true → is_gt (write_cmp w v) ≡ true → surpasses w (best (take i vs) w.name) ≡ true
    → surpasses w (best (take (i + 1) vs) w.name) ≡ true
surpasses_lesser w vs i v within is named gt all = surpasses_more w vs i v true within is (surpasses_named w v true true named gt) all

pub not_surpassed : (w : StampedWrite) (vs : List StampedWrite) (i : ℕ) (v : StampedWrite) → i < length vs → v ≡ get_or vs i v → bytes_eq v.name w.name ≡ true → is_gt (write_cmp w v) ≡ false → surpasses w (best (take i vs) w.name) ≡ true
    → false ≡ surpasses w (best vs w.name)
not_surpassed w vs i v within is named gt all =
    let front = surpasses_more w vs i v false within is (surpasses_named w v true false named gt) all in
    sym (ap (λ l. surpasses w (best l w.name)) (sym (take-append-drop (i + 1) vs)) ∙ ap (surpasses w) (best_of_both (take (i + 1) vs) (drop (i + 1) vs) w.name)
    ∙ surpasses-greater w (best (take (i + 1) vs) w.name) (best (drop (i + 1) vs) w.name) ∙ ap (λ b. b && surpasses w (best (drop (i + 1) vs) w.name)) front)

pub gt_where : (r : Ordering) (b : Bool) → not (eqb (ordering_index r) 2) ≡ b → is_gt r ≡ not b
gt_where Less true e = refl
gt_where Less false e = absurd cc
gt_where Equal true e = refl
gt_where Equal false e = absurd cc
gt_where Greater true e = absurd cc
gt_where Greater false e = refl
