-- How long the texts of objects and lists are, by what stands in them.
use Rattle.std.proofs.Common.{◌≡◌, ℕ, ◌+◌, ◌*◌, ◌≤◌, List, [], ◌∷◌, ◌++◌, length, map, Bool, true, false, Option, Some, None, Ordering, Less, Equal, Greater, refl, sym, ap, ◌∙◌, arith, length-append}
use Rattle.std.specs.List.{sum_by}
use Rattle.std.specs.Option.{option_map_or}
use Rattle.std.specs.Ordering.{match_ordering, nat_cmp}
use Rattle.std.specs.Cmp.Lexicographic.{slice_cmp}
use Rattle.std.proofs.lemmas.List.Sums.{sum_by-cons}
use Rattle.json.specs.Print.{quoted}
use Rattle.serde_json.specs.Data.{Data, Members, no_members, member, put}
use Rattle.serde_json.specs.View.{items_of}
use Rattle.serde_json.specs.Written.{compact_text, comma_if, items_text, members_text}
use Rattle.xds_json.specs.WrittenFields.{Fields, list_data, put_set, members_set, object_set}
use Rattle.xds_exchange.proofs.Weights.{quoted_short, comma_short}

-- the bytes of a value that may be set
abbrev pub set_len : Option Data → ℕ
set_len o = option_map_or (λ d. length (compact_text d)) o 0

-- ---- objects

member_len : (later : Bool) (k : List ℕ) (d : Data) (ms : Members) → length (members_text later (member k d ms)) ≡ length (comma_if later) + (length (quoted k) + (1 + (length (compact_text d) + length (members_text true ms))))
member_len later k d ms =
    omega (arith, length-append (comma_if later) (quoted k ++ 58 ∷ (compact_text d ++ members_text true ms)), length-append (quoted k) (58 ∷ (compact_text d ++ members_text true ms)), length-append (compact_text d) (members_text true ms))

put_by : (later : Bool) (o : Ordering) (k l : List ℕ) (d e : Data) (ms rest : Members) → length (members_text true rest) ≤ length (members_text true ms) + (6 * length k + 4 + length (compact_text d))
    → length (members_text later (match_ordering o (member k d (member l e ms)) (member l d ms) (member l e rest))) ≤ length (members_text later (member l e ms)) + (6 * length k + 4 + length (compact_text d))
put_by later Less k l d e ms rest h = omega (arith, quoted_short k, member_len later k d (member l e ms), member_len true l e ms, member_len later l e ms)
put_by later Equal k l d e ms rest h = omega (arith, member_len later l d ms, member_len later l e ms)
put_by later Greater k l d e ms rest h = omega (arith, h, member_len later l e rest, member_len later l e ms)

-- a member more is written as its key and its value, with two quotes, a colon and a comma
put_len : (later : Bool) (k : List ℕ) (d : Data) (ms : Members) → length (members_text later (put k d ms)) ≤ length (members_text later ms) + (6 * length k + 4 + length (compact_text d))
put_len later k d no_members = omega (arith, quoted_short k, comma_short later, member_len later k d no_members)
put_len later k d (member l e ms) = put_by later (slice_cmp nat_cmp k l) k l d e ms (put k d ms) (put_len true k d ms)

set_member_len : (later : Bool) (k : List ℕ) (o : Option Data) (ms : Members) → length (members_text later (put_set k o ms)) ≤ length (members_text later ms) + (6 * length k + 4 + set_len o)
set_member_len later k None ms = omega arith
set_member_len later k (Some d) ms = put_len later k d ms

-- the most bytes of an object of these fields
abbrev pub fields_len : Fields → ℕ
fields_len [] = 2
fields_len (f ∷ fs) = fields_len fs + (6 * length f.0 + 4 + set_len f.1)

members_len : (fs : Fields) → 1 + length (members_text false (members_set fs)) ≤ fields_len fs
members_len [] = omega arith
members_len (f ∷ fs) = omega (arith, set_member_len false f.0 f.1 (members_set fs), members_len fs)

pub object_len : (fs : Fields) → length (compact_text (object_set fs)) ≤ fields_len fs
object_len fs = omega (arith, members_len fs)

-- ---- lists

-- a value of a list is written as its text, with a comma
abbrev pub item_len : Data → ℕ
item_len d = length (compact_text d) + 1

items_len : (later : Bool) (ds : List Data) → length (items_text later (items_of ds)) ≤ sum_by item_len ds + 1
items_len later [] = omega arith
items_len later (d ∷ ds) =
    omega (arith, comma_short later, items_len true ds, sum_by-cons item_len d ds, length-append (comma_if later) (compact_text d ++ items_text true (items_of ds)), length-append (compact_text d) (items_text true (items_of ds)))

pub list_len : (ds : List Data) → set_len (list_data ds) ≤ sum_by item_len ds + 2
list_len [] = omega arith
list_len (d ∷ ds) = omega (arith, items_len false (d ∷ ds))

-- ---- sums

-- a sum over what is made of each
pub sum_by-map : {X Y : Type 0} (f : Y → ℕ) (g : X → Y) (xs : List X) → sum_by f (map g xs) ≡ sum_by (λ x. f (g x)) xs
sum_by-map f g [] = refl
sum_by-map f g (x ∷ xs) = sum_by-cons f (g x) (map g xs) ∙ ap (λ n. f (g x) + n) (sum_by-map f g xs) ∙ sym (sum_by-cons (λ y. f (g y)) x xs)
