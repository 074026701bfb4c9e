-- Texts of arrays and objects, joined piece by piece.
use Rattle.std.proofs.Common.{◌≡◌, ℕ, zero, suc, ◌+◌, ◌<◌, ◌≤◌, List, [], ◌∷◌, ◌++◌, length, drop, map, Bool, true, false, ◌&&◌, Option, Some, None, Ordering, Less, Equal, Greater, is_lt, refl, sym, ap, ◌∙◌, append_assoc, arith}
use Rattle.std.specs.Prelude.{T}
use Rattle.std.specs.Ordering.{match_ordering}
use Rattle.serde_json.specs.Data.{Data, string, Members, member, put}
use Rattle.serde_json.specs.View.{items_of}
use Rattle.serde_json.specs.Written.{compact_text, items_text, members_text, comma_if}
use Rattle.xds_resource.specs.Writes.{text_cmp}
use Rattle.xds_resource.proofs.BoolsAndLists.{holds_first, holds_second}
use Rattle.xds_message.specs.Written.{Fields, list_data, put_set, members_set, object_set}
use Rattle.xds_message.specs.Joined.{JoinsMember, with_first, members_in_order, text_with, behind_commas, with_commas}

-- ---- fields in the order of their names

abbrev pub is_below : List ℕ → Fields → Bool
is_below key [] = true
is_below key (f ∷ fs) = is_lt (text_cmp key f.0) && is_below key fs

abbrev pub ascend : Fields → Bool
ascend [] = true
ascend (f ∷ fs) = is_below f.0 fs && ascend fs

put_below : (o : Ordering) (a b c : Members) → T (is_lt o) → match_ordering o a b c ≡ a
put_below Less a b c h = refl
put_below Equal a b c h = absurd h
put_below Greater a b c h = absurd h

put-below-at : (key : List ℕ) (d : Data) (l : List ℕ) (o : Option Data) (ms : Members) → T (is_lt (text_cmp key l)) → put key d ms ≡ member key d ms → put key d (with_first l o ms) ≡ member key d (with_first l o ms)
put-below-at key d l None ms h rest = rest
put-below-at key d l (Some e) ms h rest = put_below (text_cmp key l) _ _ _ h

put-below : (key : List ℕ) (d : Data) (fs : Fields) → T (is_below key fs) → put key d (members_in_order fs) ≡ member key d (members_in_order fs)
put-below key d [] h = refl
put-below key d (f ∷ fs) h = put-below-at key d f.0 f.1 (members_in_order fs) (holds_first _ _ h) (put-below key d fs (holds_second _ _ h))

put_set-below : (key : List ℕ) (o : Option Data) (fs : Fields) → T (is_below key fs) → put_set key o (members_in_order fs) ≡ with_first key o (members_in_order fs)
put_set-below key None fs h = refl
put_set-below key (Some d) fs h = put-below key d fs h

-- fields that stand in the order of their names are the members in that order
pub members_set-ascending : (fs : Fields) → T (ascend fs) → members_set fs ≡ members_in_order fs
members_set-ascending [] h = refl
members_set-ascending (f ∷ fs) h = ap (put_set f.0 f.1) (members_set-ascending fs (holds_second _ _ h)) ∙ put_set-below f.0 f.1 fs (holds_first _ _ h)

-- ---- items

pub drop-past : {A : Type 0} (xs : List A) (i : ℕ) → length xs ≤ i → drop i xs ≡ []
drop-past [] zero h = refl
drop-past [] (suc i) h = refl
drop-past (x ∷ xs) zero h = absurd (omega arith)
drop-past (x ∷ xs) (suc i) h = drop-past xs i (omega arith)

-- one item more
pub items_joined : (out comma text rest : List ℕ) → out ++ (comma ++ (text ++ rest)) ≡ ((out ++ comma) ++ text) ++ rest
items_joined out comma text rest = simp append_assoc

pub item_joined : {A : Type 0} (json : A → Data) (xs : List A) (i : ℕ) (x : A) (later : Bool) (out middle new whole : List ℕ) → drop i xs ≡ x ∷ drop (i + 1) xs → out ++ items_text later (items_of (map json (drop i xs))) ≡ whole
    → middle ≡ out ++ comma_if later → new ≡ middle ++ compact_text (json x) → new ++ items_text true (items_of (map json (drop (i + 1) xs))) ≡ whole
item_joined json xs i x later out middle new whole here so_far with_comma with_item =
    ap (λ s. s ++ items_text true (items_of (map json (drop (i + 1) xs)))) (with_item ∙ ap (λ s. s ++ compact_text (json x)) with_comma)
    ∙ sym (items_joined out (comma_if later) (compact_text (json x)) (items_text true (items_of (map json (drop (i + 1) xs)))))
    ∙ (rw here at so_far)

pub items_closed : {A : Type 0} (json : A → Data) (xs : List A) (i : ℕ) (later : Bool) (out new whole : List ℕ) → length xs ≤ i → out ++ items_text later (items_of (map json (drop i xs))) ≡ whole → new ≡ out ++ 93 ∷ [] → new ≡ whole
items_closed json xs i later out new whole past so_far with_bracket = with_bracket ∙ (rw (drop-past xs i past) at so_far)

-- ---- objects

-- all members joined, and the closing brace
pub object_joined : (old opened last closed : List ℕ) (later : Bool) (fs : Fields) → opened ≡ old ++ 123 ∷ [] → text_with last later [] ≡ text_with opened false fs → closed ≡ last ++ 125 ∷ [] → T (ascend fs) → closed ≡ old ++ compact_text (object_set fs)
object_joined old opened last closed later fs begins members ends rising =
    ends ∙ members ∙ ap (λ s. s ++ members_text false (members_in_order fs)) begins ∙ append_assoc old (123 ∷ []) (members_text false (members_in_order fs))
    ∙ ap (λ ms. old ++ 123 ∷ members_text false ms) (sym (members_set-ascending fs rising))

-- ---- items that stand between two texts

behind_joined : {A : Type 0} (json : A → Data) (xs : List A) → items_text true (items_of (map json xs)) ≡ behind_commas (map (λ x. compact_text (json x)) xs) ++ 93 ∷ []
behind_joined json [] = refl
behind_joined json (x ∷ xs) =
    ap (λ (rest : List ℕ). 44 ∷ compact_text (json x) ++ rest) (behind_joined json xs)
    ∙ ap (λ (rest : List ℕ). 44 ∷ rest) (sym (append_assoc (compact_text (json x)) (behind_commas (map (λ x. compact_text (json x)) xs)) (93 ∷ [])))

between_joined : {A : Type 0} (json : A → Data) (x : A) (xs : List A) → items_text false (items_of (map json (x ∷ xs))) ≡ with_commas (map (λ x. compact_text (json x)) (x ∷ xs)) ++ 93 ∷ []
between_joined json x xs =
    ap (λ (rest : List ℕ). compact_text (json x) ++ rest) (behind_joined json xs)
    ∙ sym (append_assoc (compact_text (json x)) (behind_commas (map (λ x. compact_text (json x)) xs)) (93 ∷ []))

list_around : (old comma key items rest : List ℕ) → (((old ++ (comma ++ (key ++ 58 ∷ []))) ++ 91 ∷ []) ++ (items ++ 93 ∷ [])) ++ rest ≡ old ++ (comma ++ (key ++ 58 ∷ ((91 ∷ (items ++ 93 ∷ [])) ++ rest)))
list_around old comma key items rest = simp append_assoc

-- a list, but for its items, is put around them
pub list_joined_around : {A : Type 0} (json : A → Data) (xs : List A) (old keyed head before tail : List ℕ) (later : Bool) (key : List ℕ) → 0 < length xs → before ≡ []
    → keyed ≡ old ++ (comma_if later ++ (compact_text (string key) ++ 58 ∷ [])) → head ≡ keyed ++ 91 ∷ [] → tail ≡ before ++ 93 ∷ []
    → JoinsMember old later (key, list_data (map json xs)) (head ++ (with_commas (map (λ x. compact_text (json x)) xs) ++ tail)) true
list_joined_around json [] old keyed head before tail later key some empty with_key opened closed fs = absurd (omega (arith, some))
list_joined_around json (x ∷ xs) old keyed head before tail later key some empty with_key opened closed fs =
    let items = with_commas (map (λ x. compact_text (json x)) (x ∷ xs)) in
    let rest = members_text true (members_in_order fs) in
    let head_is : head ≡ (old ++ (comma_if later ++ (compact_text (string key) ++ 58 ∷ []))) ++ 91 ∷ [] = opened ∙ ap (λ (t : List ℕ). t ++ 91 ∷ []) with_key in
    let tail_is : tail ≡ 93 ∷ [] = closed ∙ ap (λ (t : List ℕ). t ++ 93 ∷ []) empty in
    ap (λ (h : List ℕ). (h ++ (items ++ tail)) ++ rest) head_is
    ∙ ap (λ (t : List ℕ). (((old ++ (comma_if later ++ (compact_text (string key) ++ 58 ∷ []))) ++ 91 ∷ []) ++ (items ++ t)) ++ rest) tail_is
    ∙ list_around old (comma_if later) (compact_text (string key)) items rest
    ∙ ap (λ (is : List ℕ). old ++ (comma_if later ++ (compact_text (string key) ++ 58 ∷ ((91 ∷ is) ++ rest)))) (sym (between_joined json x xs))

behind_two : (p q text rest : List ℕ) → (p ++ (q ++ text)) ++ rest ≡ p ++ (q ++ (text ++ rest))
behind_two p q text rest = simp append_assoc

-- a member that joins a text joins one behind others
pub joined_behind : (p q old new : List ℕ) (later : Bool) (f : List ℕ × Option Data) (then : Bool) → JoinsMember old later f new then → JoinsMember (p ++ (q ++ old)) later f (p ++ (q ++ new)) then
joined_behind p q old new later f then joins fs =
    behind_two p q new (members_text then (members_in_order fs))
    ∙ ap (λ (t : List ℕ). p ++ (q ++ t)) (joins fs)
    ∙ sym (behind_two p q old (members_text later (members_in_order (f ∷ fs))))

pub closed_behind : (p q last closed : List ℕ) → closed ≡ last ++ 125 ∷ [] → p ++ (q ++ closed) ≡ (p ++ (q ++ last)) ++ 125 ∷ []
closed_behind p q last closed ends = ap (λ (t : List ℕ). p ++ (q ++ t)) ends ∙ sym (behind_two p q last (125 ∷ []))

-- ---- a member whose value stands between two texts, between two other members

keyed : (old comma key value rest : List ℕ) → (old ++ (comma ++ (key ++ 58 ∷ []))) ++ (value ++ rest) ≡ old ++ (comma ++ (key ++ 58 ∷ (value ++ rest)))
keyed old comma key value rest = simp append_assoc

pub member_around : (key : List ℕ) (d : Data) (before behind : List ℕ × Option Data) (opened named head untold last tail : List ℕ) (later last_later : Bool) → opened ≡ 123 ∷ []
    → JoinsMember opened false before named later → head ≡ named ++ (comma_if later ++ (compact_text (string key) ++ 58 ∷ [])) → untold ≡ [] → JoinsMember untold true behind last last_later
    → tail ≡ last ++ 125 ∷ [] → T (ascend (before ∷ (key, Some d) ∷ behind ∷ [])) → head ++ (compact_text d ++ tail) ≡ compact_text (object_set (before ∷ (key, Some d) ∷ behind ∷ []))
member_around key d before behind opened named head untold last tail later last_later begins name with_key empty told closes rising =
    let fs : Fields = (key, Some d) ∷ behind ∷ [] in
    let rest = members_text true (members_in_order (behind ∷ [])) in
    let tail_is : tail ≡ rest = closes ∙ told [] ∙ ap (λ (t : List ℕ). t ++ rest) empty in
    ap (λ (h : List ℕ). h ++ (compact_text d ++ tail)) with_key
    ∙ ap (λ (t : List ℕ). (named ++ (comma_if later ++ (compact_text (string key) ++ 58 ∷ []))) ++ (compact_text d ++ t)) tail_is
    ∙ keyed named (comma_if later) (compact_text (string key)) (compact_text d) rest
    ∙ name fs
    ∙ ap (λ s. s ++ members_text false (members_in_order (before ∷ fs))) begins
    ∙ ap (λ ms. 123 ∷ members_text false ms) (sym (members_set-ascending (before ∷ fs) rising))
