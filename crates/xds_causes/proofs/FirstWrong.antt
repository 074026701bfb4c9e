-- Loops over fields and over items: what is left decides.
use Rattle.std.proofs.Common.{◌≡◌, ◌<◌, ◌∙◌, ℕ, List, Bool, true, false, length, get_or, drop, map, inl, inr, refl, sym, ap, subst, Some, Option, Result, Ok, Err, IfOk}
use Rattle.std.specs.Prelude.{is_some}
use Rattle.std.specs.Option.{option_map}
use Rattle.std.proofs.lemmas.List.{drop_more}
use Rattle.serde_json.specs.Data.{Data}
use Rattle.serde_json.specs.Find.{as_object}
use Rattle.serde_json.specs.View.{items_view, view}
use Rattle.serde_json.specs.declared.value.Value.{Value}
use Rattle.xds_resource.proofs.BoolsAndLists.{drop_here}
use Rattle.xds_causes.specs.declared.fields.Field.{Field}
use Rattle.xds_causes.specs.Fields.{Fits, IsFirstWrong, Tells, Wanted, wanted}
use Rattle.xds_causes.specs.Told.{has_others}

-- ---- fields

-- what the first wrong field is of those that are left, it is of all
abbrev pub LeavesWrong : List Field → Data → List Field → Type 0
LeavesWrong fields d rest = (o : Option Wanted) → IsFirstWrong (map wanted rest) d o → IsFirstWrong (map wanted fields) d o

tells_true : (Is : Type 0) (b : Bool) → Tells Is b → b ≡ true → Is → ⊥
tells_true Is true not is = not
tells_true Is false not is = absurd cc

-- a field that is wrong is the first of those that are left
pub wrong_here : (fields : List Field) (d : Data) (i : ℕ) (f : Field) (wrong : Bool) → i < length fields → LeavesWrong fields d (drop i fields) → Tells (Fits (wanted (get_or fields i f)) d) wrong
    → wrong ≡ true → IsFirstWrong (map wanted fields) d (Some (wanted (get_or fields i f)))
wrong_here fields d i f wrong within left tells so =
    left (Some (wanted (get_or fields i f)))
    (subst (λ (xs : List Field). IsFirstWrong (map wanted xs) d (Some (wanted (get_or fields i f)))) (sym (drop_more fields i f within))
    (inl (tells_true (Fits (wanted (get_or fields i f)) d) wrong tells so, refl)))

-- the fields that are looked at are these
pub looked_at : {E : Type 0} (fields : List Field) (ws : List Wanted) (d : Data) (r : Result (Option Field) E) → map wanted fields ≡ ws
    → IfOk r (λ o. IsFirstWrong (map wanted fields) d (option_map wanted o)) → IfOk r (λ o. IsFirstWrong ws d (option_map wanted o))
looked_at fields ws d (Ok o) is first = subst (λ (xs : List Wanted). IsFirstWrong xs d (option_map wanted o)) is first
looked_at fields ws d (Err e) is first = tt

-- ---- items

module _ (values : List Value) (i : ℕ) (v : Value) (object : Bool) (within : i < length values) (is : v ≡ get_or values i v) (left : has_others (items_view (drop i values)) ≡ has_others (items_view values)) (tells : object ≡ is_some (as_object (view v))) where
  pub others_here : object ≡ false → true ≡ has_others (items_view values)
  others_here so =
      let next = drop_here values i v v within is in
      let none : is_some (as_object (view v)) ≡ false = sym tells ∙ so in
      rw none at (ap (λ (xs : List Value). has_others (items_view xs)) (sym next) ∙ left)
