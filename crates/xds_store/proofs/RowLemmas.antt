-- A row of a write is read as that write, and two such rows that tie are the same.
use Rattle.std.proofs.Common.{◌≡◌, ℕ, pos, List, [], ◌∷◌, map, Option, Some, None, unwrap_or, refl, sym, ap, subst, ◌∙◌, arith}
use Rattle.std.specs.Prelude.{max, ◌≤◌}
use Rattle.std.specs.declared.cmp.Ordering.TheVariants.{Equal}
use Rattle.std.proofs.lemmas.Map.Lookups.{exact_signed}
use Rattle.serde_json.specs.Data.{Data, null, string, array, depth, items_depth}
use Rattle.serde_json.specs.Read.{read, max_depth}
use Rattle.serde_json.specs.View.{items_of}
use Rattle.sqlite_value.specs.declared.value.Value.{Value}
use Rattle.sqlite_value.specs.declared.value.Value.TheVariants.{Null, Int, Text}
use Rattle.sqlite_value.specs.Keys.{plain, entry_cmp}
use Rattle.sqlite_value.specs.Order.{Row, value_cmp, row_cmp}
use Rattle.sqlite_trees.specs.Objects.{number_in}
use Rattle.sqlite_value.proofs.KeyLemmas.{entry_cmp-plain, then_tied, class_tied}
use Rattle.sqlite_value.proofs.OrderLemmas.{value_cmp-Text, value_cmp-Int}
use Rattle.xds_resource.specs.declared.types.TypeName.TheVariants.{Cluster}
use Rattle.xds_resource.specs.TypedWrites.{TypedWrite}
use Rattle.xds_resource.specs.Types.{row}
use Rattle.xds_resource.proofs.WriteTies.{text_cmp-IsAntisymmetric}
use Rattle.xds_resource.proofs.TypesApart.{word_again}
use Rattle.xds_store.specs.Rows.{body_value, groups_data, row_with, IsRowOf, body_in, texts_of, texts_in, groups_in, typed_in, IsRow}

text_list : (groups : List (List ℕ)) → texts_of (items_of (map string groups)) ≡ groups
text_list [] = refl
text_list (g ∷ groups) = ap (λ l. g ∷ l) (text_list groups)

groups_again : (text : List ℕ) (groups : List (List ℕ)) → read text ≡ Some (groups_data groups) → groups_in text ≡ groups
groups_again text groups e = ap (λ o. texts_in (unwrap_or o null)) e ∙ text_list groups

body_again : (o : Option (List ℕ)) → body_in (body_value o) ≡ o
body_again None = refl
body_again (Some text) = refl

with_again : (x : TypedWrite) (groups : List ℕ) → read groups ≡ Some (groups_data x.1.groups) → typed_in (row_with x groups) ≡ x
with_again x groups e =
    λ i. (unwrap_or (word_again x.0 i) Cluster, record { name = x.1.name; counter = x.1.counter; writer = x.1.writer; body = body_again x.1.body i; groups = groups_again groups x.1.groups e i })

-- a row of a write is read as that write
pub read_again : (r : Row) (x : TypedWrite) → IsRowOf r x → typed_in r ≡ x
read_again r x is = ap typed_in is.is ∙ with_again x is.groups is.listed

pub row_of_it : (r : Row) (x : TypedWrite) → IsRowOf r x → IsRow r
row_of_it r x is = subst (IsRowOf r) (sym (read_again r x is)) is

text_tied : (s t : List ℕ) → value_cmp (Text s) (Text t) ≡ Equal → s ≡ t
text_tied s t e = text_cmp-IsAntisymmetric s t (sym (value_cmp-Text s t) ∙ e)

number_tied : (m n : ℕ) → value_cmp (Int (pos m)) (Int (pos n)) ≡ Equal → m ≡ n
number_tied m n e = ap (λ z. number_in (Int z)) (exact_signed (pos m) (pos n) (sym (value_cmp-Int (pos m) (pos n)) ∙ e))

body_tied : (a b : Option (List ℕ)) → value_cmp (body_value a) (body_value b) ≡ Equal → a ≡ b
body_tied None None e = refl
body_tied None (Some b) e = absurd (omega (arith, class_tied Null (Text b) e))
body_tied (Some a) None e = absurd (omega (arith, class_tied (Text a) Null e))
body_tied (Some a) (Some b) e = ap Some (text_tied a b e)

-- two rows of six columns tie column by column
six_tied : (a b c d e f p q r s t u : Value) → row_cmp (a ∷ b ∷ c ∷ d ∷ e ∷ f ∷ []) (p ∷ q ∷ r ∷ s ∷ t ∷ u ∷ []) ≡ Equal
    → (value_cmp a p ≡ Equal) × (value_cmp b q ≡ Equal) × (value_cmp c r ≡ Equal) × (value_cmp d s ≡ Equal) × (value_cmp e t ≡ Equal) × (value_cmp f u ≡ Equal)
six_tied a b c d e f p q r s t u tie =
    let one = then_tied (value_cmp a p) (row_cmp (b ∷ c ∷ d ∷ e ∷ f ∷ []) (q ∷ r ∷ s ∷ t ∷ u ∷ [])) tie in
    let two = then_tied (value_cmp b q) (row_cmp (c ∷ d ∷ e ∷ f ∷ []) (r ∷ s ∷ t ∷ u ∷ [])) one.1 in
    let three = then_tied (value_cmp c r) (row_cmp (d ∷ e ∷ f ∷ []) (s ∷ t ∷ u ∷ [])) two.1 in
    let four = then_tied (value_cmp d s) (row_cmp (e ∷ f ∷ []) (t ∷ u ∷ [])) three.1 in
    let five = then_tied (value_cmp e t) (row_cmp (f ∷ []) (u ∷ [])) four.1 in
    let six = then_tied (value_cmp f u) (row_cmp [] []) five.1 in
    (one.0, two.0, three.0, four.0, five.0, six.0)

with_tied : (x y : TypedWrite) (g h : List ℕ) → row_cmp (row_with x g) (row_with y h) ≡ Equal → row_with x g ≡ row_with y h
with_tied x y g h tie =
    let ties = six_tied (Text (row x.0).word) (Text x.1.name) (Int (pos x.1.counter)) (Int (pos x.1.writer)) (body_value x.1.body) (Text g)
    (Text (row y.0).word) (Text y.1.name) (Int (pos y.1.counter)) (Int (pos y.1.writer)) (body_value y.1.body) (Text h) tie in
    let words = text_tied (row x.0).word (row y.0).word ties.0 in
    let names = text_tied x.1.name y.1.name ties.1 in
    let counters = number_tied x.1.counter y.1.counter ties.2 in
    let writers = number_tied x.1.writer y.1.writer ties.3 in
    let bodies = body_tied x.1.body y.1.body ties.4 in
    let groups = text_tied g h ties.5 in
    λ i. Text (words i) ∷ Text (names i) ∷ Int (pos (counters i)) ∷ Int (pos (writers i)) ∷ body_value (bodies i) ∷ Text (groups i) ∷ []

-- two rows that tie are the same
pub rows_tied : (a b : Row) (x y : TypedWrite) → IsRowOf a x → IsRowOf b y → entry_cmp plain a b ≡ Equal → a ≡ b
rows_tied a b x y one two e =
    let tied : row_cmp (row_with x one.groups) (row_with y two.groups) ≡ Equal = (λ i. row_cmp (sym one.is i) (sym two.is i)) ∙ sym (entry_cmp-plain a b) ∙ e in
    one.is ∙ with_tied x y one.groups two.groups tied ∙ sym two.is

shallow : (groups : List (List ℕ)) → items_depth (items_of (map string groups)) ≡ 0
shallow [] = refl
shallow (g ∷ groups) = ap (max 0) (shallow groups)

-- a text that is read as the texts' list lists the groups that they are
pub listed_as : (ds : List Data) (groups : List (List ℕ)) (o : Option Data) (d : Data) → d ≡ array (items_of ds) → ds ≡ map string groups → (depth d ≤ max_depth → o ≡ Some d)
    → o ≡ Some (groups_data groups)
listed_as ds groups o d is e reads =
    let same : d ≡ groups_data groups = is ∙ ap (λ xs. array (items_of xs)) e in
    let deep : depth (groups_data groups) ≤ max_depth = omega (arith, shallow groups) in
    reads (subst (λ (x : Data). depth x ≤ max_depth) (sym same) deep) ∙ ap Some same
