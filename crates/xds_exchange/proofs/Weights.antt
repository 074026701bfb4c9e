-- How many bytes what is written of a write has at most.
use Rattle.std.proofs.Common.{◌≡◌, ℕ, ◌+◌, ◌*◌, ◌≤◌, List, [], ◌∷◌, ◌++◌, length, map, Bool, true, false, not, nat_lt, cond, Option, Some, None, unwrap_or, codes, refl, sym, ap, ◌∙◌, subst, arith, length-append}
use Rattle.std.specs.List.{list_all}
use Rattle.std.specs.Option.{ForSome, option_map_or}
use Rattle.std.proofs.lemmas.Bool.{ltb-false, and_parts, not-true}
use Rattle.json.specs.Print.{escape_letter, escape_byte, escape, quoted}
use Rattle.serde_json.specs.Data.{Data, string, object, Members, no_members}
use Rattle.serde_json.specs.Find.{get}
use Rattle.serde_json.specs.View.{items_of}
use Rattle.serde_json.specs.Written.{compact_text, has_float, items_text, comma_if}
use Rattle.xds_resource.specs.declared.types.TypeName.{TypeName}
use Rattle.xds_resource.specs.Groups.{IsGroups, is_group, grouped, max_group, max_groups}
use Rattle.xds_resource.specs.Resources.{IsWritable, IsCanonical, max_text}
use Rattle.xds_resource.specs.Writes.{StampedWrite}
use Rattle.xds_resource.proofs.Grouping.{groups-parts}
use Rattle.xds_json.specs.WrittenFields.{list_data, put_set}
use Rattle.xds_json.proofs.FieldsWithin.{HasNoFloat, HasNoFloat-list_data, items_have_float-texts}
use Rattle.xds_exchange.specs.Parts.{weight, groups_bytes, max_bytes}

-- ---- texts

escaped_by : (short low : Bool) (x l a b : ℕ) → length (cond short (92 ∷ l ∷ []) (cond low (92 ∷ 117 ∷ 48 ∷ 48 ∷ a ∷ b ∷ []) (x ∷ []))) ≤ 6
escaped_by true low x l a b = omega arith
escaped_by false true x l a b = omega arith
escaped_by false false x l a b = omega arith

escape_byte_short : (x : ℕ) → length (escape_byte x) ≤ 6
unfolding escape_byte
escape_byte_short x = escaped_by (nat_lt 0 (escape_letter x)) (nat_lt x 32) x (escape_letter x) _ _

-- a byte of a text is written as six at most
pub escape_short : (s : List ℕ) → length (escape s) ≤ 6 * length s
escape_short [] = omega arith
escape_short (x ∷ xs) = omega (arith, escape_byte_short x, escape_short xs, length-append (escape_byte x) (escape xs))

pub quoted_short : (s : List ℕ) → length (quoted s) ≤ 6 * length s + 2
quoted_short s = omega (arith, escape_short s, length-append (escape s) (34 ∷ []))

-- ---- lists of groups

group_short : (g : List ℕ) → is_group g ≡ true → length g ≤ max_group
group_short g e = ltb-false max_group (length g) (not-true (nat_lt max_group (length g)) (and_parts (nat_lt 0 (length g)) (not (nat_lt max_group (length g))) e).1)

pub comma_short : (later : Bool) → length (comma_if later) ≤ 1
comma_short true = omega arith
comma_short false = omega arith

texts_short : (later : Bool) (gs : List (List ℕ)) → list_all is_group gs ≡ true → length (items_text later (items_of (map string gs))) ≤ 6147 * length gs + 1
texts_short later [] e = omega arith
texts_short later (g ∷ gs) e =
    let parts = and_parts (is_group g) (list_all is_group gs) e in
    let rest = items_text true (items_of (map string gs)) in
    omega (arith, comma_short later, quoted_short g, group_short g parts.0, texts_short true gs parts.1, length-append (comma_if later) (quoted g ++ rest), length-append (quoted g) rest)

listed_short : (gs : List (List ℕ)) → list_all is_group gs ≡ true → length gs ≤ max_groups → groups_bytes gs ≤ 393411
listed_short [] e few = omega arith
listed_short (g ∷ gs) e few = omega (arith, texts_short false (g ∷ gs) e, few)

pub groups_short : (gs : List (List ℕ)) → IsGroups gs → groups_bytes gs ≤ 393411
groups_short gs h =
    let parts = groups-parts gs gs h in
    listed_short gs parts.0 (subst (λ hs. length hs ≤ max_groups) parts.2 (ltb-false max_groups (length (grouped gs)) parts.1))

-- ---- bodies

pub body_short : (t : TypeName) (name : List ℕ) (body : Option (List ℕ)) → ForSome body (λ b. IsCanonical t (record { name = name; body = b })) → length (unwrap_or body []) ≤ max_text
body_short t name None h = omega arith
body_short t name (Some b) h = (h b refl).short

-- a write by itself is within the bounds of a part
pub weight_few : (t : TypeName) (w : StampedWrite) → IsWritable t w → weight (t, w) ≤ max_bytes
weight_few t w h = omega (arith, body_short t w.name w.body h.body, groups_short w.groups h.groups)

-- ---- what is written of groups

-- what an object that has the list alone holds there
alone : (o : Option Data) → get (codes "groups") (object (put_set (codes "groups") o no_members)) ≡ o
alone None = refl
alone (Some e) = refl

pub list_alone : (d : Data) (ms old : Members) (gs : List (List ℕ)) → d ≡ object ms → ms ≡ put_set (codes "groups") (list_data (map string gs)) old → old ≡ no_members → get (codes "groups") d ≡ list_data (map string gs)
list_alone d ms old gs is put empty = ap (get (codes "groups")) (is ∙ ap object (put ∙ ap (put_set (codes "groups") (list_data (map string gs))) empty)) ∙ alone (list_data (map string gs))

pub listed : (gs : List (List ℕ)) (d : Data) → Some d ≡ list_data (map string gs) → (has_float d ≡ false) × (length (compact_text d) ≡ groups_bytes gs)
listed gs d e = (subst HasNoFloat (sym e) (HasNoFloat-list_data (map string gs) (items_have_float-texts gs)), ap (λ o. option_map_or (λ x. length (compact_text x)) o 0) e)

pub unlisted : (gs : List (List ℕ)) → None ≡ list_data (map string gs) → 0 ≡ groups_bytes gs
unlisted gs e = ap (λ o. option_map_or (λ x. length (compact_text x)) o 0) e
