-- Only equal writes tie.
use Rattle.std.proofs.Common.{◌≡◌, ◌↔◌, ◌∙◌, sym, ap, Bool, refl, IsTrue}
use Rattle.std.specs.declared.cmp.Ordering.{Ordering}
use Rattle.std.specs.declared.cmp.Ordering.TheVariants.{Less, Equal, Greater}
use Rattle.std.specs.Prelude.{Option, Some, None}
use Rattle.std.specs.Arc.{arc_str_bytes}
use Rattle.std.specs.declared.sync.ArcStr.{ArcStr}
use Rattle.std.specs.Ordering.{ordering_then, is_eq, eq_by_cmp, nat_cmp}
use Rattle.std.specs.Option.{option_cmp, option_map}
use Rattle.std.specs.Cmp.{tied_itself, Equal-is}
use Rattle.std.specs.FinMap.{IsAntisymmetric, nat_cmp-IsAntisymmetric, slice_cmp-IsAntisymmetric}
use Rattle.xds_resource.specs.Writes.{StampedWrite, text_cmp, groups_cmp, write_cmp}
use Rattle.xds_resource.specs.WriteOrder.{write_cmp_total}

pub text_cmp-IsAntisymmetric : IsAntisymmetric text_cmp
text_cmp-IsAntisymmetric = slice_cmp-IsAntisymmetric nat_cmp-IsAntisymmetric

pub option_cmp-IsAntisymmetric : IsAntisymmetric (option_cmp text_cmp)
option_cmp-IsAntisymmetric None None e = refl
option_cmp-IsAntisymmetric None (Some y) e = cc
option_cmp-IsAntisymmetric (Some x) None e = cc
option_cmp-IsAntisymmetric (Some x) (Some y) e = let same : x ≡ y = text_cmp-IsAntisymmetric x y e in cc

-- an order and then another tie where both do
ordering_then-Equal : (o p : Ordering) → ordering_then o p ≡ Equal → (o ≡ Equal) × (p ≡ Equal)
ordering_then-Equal Less p e = absurd cc
ordering_then-Equal Equal p e = (refl, e)
ordering_then-Equal Greater p e = absurd cc

then_assoc : (a b c : Ordering) → ordering_then (ordering_then a b) c ≡ ordering_then a (ordering_then b c)
then_assoc Less b c = refl
then_assoc Equal b c = refl
then_assoc Greater b c = refl

-- bodies that are shared compare as their bytes
pub compared_bodies : {Z : Type 0} (b c : Option (ArcStr Z)) → option_cmp (λ x y. text_cmp (arc_str_bytes x) (arc_str_bytes y)) b c ≡ option_cmp text_cmp (option_map arc_str_bytes b) (option_map arc_str_bytes c)
compared_bodies None None = refl
compared_bodies None (Some y) = refl
compared_bodies (Some x) None = refl
compared_bodies (Some x) (Some y) = refl

-- the parts compared one after the other are the writes compared
pub compared : (v w : StampedWrite) (stamps bodies groups names first second third : Ordering)
    → stamps ≡ ordering_then (nat_cmp v.counter w.counter) (nat_cmp v.writer w.writer) → bodies ≡ option_cmp text_cmp v.body w.body → groups ≡ groups_cmp v.groups w.groups → names ≡ text_cmp v.name w.name
    → first ≡ ordering_then stamps bodies → second ≡ ordering_then first groups → third ≡ ordering_then second names → third ≡ write_cmp v w
compared v w stamps bodies groups names first second third s b g n one two three =
    let counter = nat_cmp v.counter w.counter in
    let writer = nat_cmp v.writer w.writer in
    let body = option_cmp text_cmp v.body w.body in
    let group = groups_cmp v.groups w.groups in
    let name = text_cmp v.name w.name in
    let first_is = one ∙ (λ i. ordering_then (s i) (b i)) in
    let second_is = two ∙ (λ i. ordering_then (first_is i) (g i)) in
    three ∙ (λ i. ordering_then (second_is i) (n i)) ∙ then_assoc (ordering_then (ordering_then counter writer) body) group name
    ∙ then_assoc (ordering_then counter writer) body (ordering_then group name) ∙ then_assoc counter writer (ordering_then body (ordering_then group name))

-- rule: greatest-write
pub write_cmp-IsAntisymmetric : IsAntisymmetric write_cmp
write_cmp-IsAntisymmetric v w e =
    let counters = ordering_then-Equal _ _ e in
    let writers = ordering_then-Equal _ _ counters.1 in
    let bodies = ordering_then-Equal _ _ writers.1 in
    let lists = ordering_then-Equal _ _ bodies.1 in
    let groups : v.groups ≡ w.groups = slice_cmp-IsAntisymmetric text_cmp-IsAntisymmetric _ _ lists.0 in
    let name : v.name ≡ w.name = text_cmp-IsAntisymmetric _ _ lists.1 in
    let counter : v.counter ≡ w.counter = nat_cmp-IsAntisymmetric _ _ counters.0 in
    let writer : v.writer ≡ w.writer = nat_cmp-IsAntisymmetric _ _ writers.0 in
    let body : v.body ≡ w.body = option_cmp-IsAntisymmetric _ _ bodies.0 in
    λ i. record { name = name i; counter = counter i; writer = writer i; body = body i; groups = groups i }

-- a write ties with itself
pub write_cmp-same : (w : StampedWrite) → write_cmp w w ≡ Equal
write_cmp-same w = tied_itself write_cmp_total w

-- what `==` answers by the order: whether the two are the same write
pub eq_by_write_cmp : (v w : StampedWrite) (r : Bool) → r ≡ eq_by_cmp write_cmp v w → IsTrue r ↔ (v ≡ w)
eq_by_write_cmp v w r e = (
  λ yes. write_cmp-IsAntisymmetric v w ((Equal-is (write_cmp v w)).0 (sym e ∙ yes)),
  λ same. e ∙ ap (λ x. is_eq (write_cmp v x)) (sym same) ∙ ap is_eq (write_cmp-same v),
)
