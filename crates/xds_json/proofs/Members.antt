-- Members of an object in order, looked up one after another.
use Rattle.std.proofs.Common.{◌≡◌, ◌+◌, ◌<◌, ℕ, List, [], ◌∷◌, length, get_or, drop, map, Bool, cond, Option, Some, Ordering, Less, Equal, Greater, nat_cmp, is_eq, bytes_eq, refl, sym, ap, ◌∙◌}
use Rattle.std.proofs.lemmas.List.{drop_more}
use Rattle.std.proofs.lemmas.Map.Text.{is_eq-slice_cmp}
use Rattle.std.specs.Ordering.{match_ordering}
use Rattle.std.specs.Cmp.Lexicographic.{slice_cmp}
use Rattle.std.specs.declared.alloc.Global.{Global}
use Rattle.json.specs.Value.{value_view, items_view}
use Rattle.json.specs.declared.value.Value.{Value}
use Rattle.serde_json.specs.Data.{Data, item, Members, member}
use Rattle.serde_json.specs.Find.{get_member}
use Rattle.serde_json.specs.View.{items_of}
use Rattle.xds_json.specs.Ordered.{meaning, items_meaning}
use Rattle.xds_json.specs.Placed.{Entry}

told_apart : (o : Ordering) (b : Bool) (here later : Option Data) → is_eq o ≡ b → match_ordering o later here later ≡ cond b here later
told_apart Less b here later e = ap (λ c. cond c here later) e
told_apart Equal b here later e = ap (λ c. cond c here later) e
told_apart Greater b here later e = ap (λ c. cond c here later) e

pub get_member-member : (k l : List ℕ) (d : Data) (ms : Members) (b : Bool) → bytes_eq k l ≡ b → get_member k (member l d ms) ≡ cond b (Some d) (get_member k ms)
get_member-member k l d ms b e = told_apart (slice_cmp nat_cmp k l) b (Some d) (get_member k ms) (is_eq-slice_cmp k l ∙ e)

-- what is left, from a place on
pub from_here : (es : List Entry) (i : ℕ) (e : Entry) → i < length es → e ≡ get_or es i e → drop i es ≡ e ∷ drop (i + 1) es
from_here es i e within is = drop_more es i e within ∙ ap (λ x. x ∷ drop (i + 1) es) (sym is)

pub items_meaning-map : (vs : List (Value Global)) → items_meaning (items_view vs) ≡ items_of (map (λ v. meaning (value_view v)) vs)
items_meaning-map [] = refl
items_meaning-map (v ∷ vs) = ap (item (meaning (value_view v))) (items_meaning-map vs)
