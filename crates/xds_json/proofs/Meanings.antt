-- What JSON in order reads as, and what is written of it.
use Rattle.std.proofs.Common.{◌≡◌, ◌<◌, ◌≤◌, ◌^◌, ℕ, suc, max, List, [], ◌∷◌, Some, false, decimal, Less, Greater, nat_cmp, refl, sym, ap, ap₂, ◌∙◌, subst, append-nil}
use Rattle.std.proofs.lemmas.Cmp.{nat_list_cmp_total}
use Rattle.std.specs.Prelude.{⊤, unwrap_or, option_map, option_and_then}
use Rattle.std.specs.Cmp.Lexicographic.{slice_cmp}
use Rattle.std.specs.Ordering.{ordering_reverse}
use Rattle.json.specs.Lex.{tokens}
use Rattle.json.specs.Token.{Token}
use Rattle.json.specs.Print.{print, IsNumber}
use Rattle.json.specs.Json.{Json, Items, Members, if_last}
use Rattle.json.specs.Json as json
use Rattle.json.specs.Tree as tree
use Rattle.json.specs.Tree.{json_tokens, HasNumbers, ItemsHaveNumbers, MembersHaveNumbers}
use Rattle.json.proofs.Printed.Decimals.{IsNumber-decimal}
use Rattle.json.proofs.Printed.Trees.{value-json_tokens}
use Rattle.serde_json.specs.Data as value
use Rattle.serde_json.specs.Data.{Data, number, unsigned, array, object, no_members, member, put, depth, items_depth, members_depth}
use Rattle.serde_json.specs.Read.{number_of, of_json, of_items, of_members, converted, read, max_depth}
use Rattle.serde_json.specs.Written.{outline, items_outline, members_outline, has_float, items_have_float, members_have_float, compact_text}
use Rattle.serde_json.proofs.Numbers.{number_of-decimal}
use Rattle.serde_json.proofs.Texts.{print-outline}
use Rattle.xds_json.specs.Ordered.{IsWhole, ComesFirst, IsOrdered, AreOrdered, AreInOrder, meaning, items_meaning, members_meaning}

number_is : (s : List ℕ) (h : IsWhole s) → number_of s ≡ Some (unsigned h.0)
number_is s h = ap number_of h.2 ∙ number_of-decimal h.0 h.1

pub meaning-number : (s : List ℕ) (n : ℕ) → n < 2 ^ 64 → s ≡ decimal n → meaning (json.number s) ≡ number (unsigned n)
meaning-number s n h e = ap (λ o. number (unwrap_or o (unsigned 0))) (number_is s (n, h, e))

-- ---- members that go in one after another, each behind the last

abbrev join : value.Members → value.Members → value.Members
join no_members more = more
join (member k d ms) more = member k d (join ms more)

join-none : (ms : value.Members) → join ms no_members ≡ ms
join-none no_members = refl
join-none (member k d ms) = ap (member k d) (join-none ms)

join_again : (found : value.Members) (k : List ℕ) (d : Data) (more : value.Members) → join (join found (member k d no_members)) more ≡ join found (member k d more)
join_again no_members k d more = refl
join_again (member l e ms) k d more = ap (member l e) (join_again ms k d more)

-- every key that was found comes before those to come
abbrev Precede : value.Members → Members → Type 0
Precede no_members ms = ⊤
Precede (member k d found) ms = ComesFirst k ms × Precede found ms

pub turned : (k l : List ℕ) → slice_cmp nat_cmp l k ≡ Less → slice_cmp nat_cmp k l ≡ Greater
turned k l h = nat_list_cmp_total.antisymm k l ∙ ap ordering_reverse h

put_last : (found : value.Members) (k : List ℕ) (d : Data) (j : Json) (ms : Members) → Precede found (json.member k j ms) → put k d found ≡ join found (member k d no_members)
put_last no_members k d j ms h = refl
put_last (member l e found) k d j ms h = rw (turned k l h.0.0) (ap (member l e) (put_last found k d j ms h.1))

Precede-more : (found : value.Members) (k : List ℕ) (d : Data) (j : Json) (ms : Members) → Precede found (json.member k j ms) → ComesFirst k ms → Precede (join found (member k d no_members)) ms
Precede-more no_members k d j ms h first = (first, tt)
Precede-more (member l e found) k d j ms h first = (h.0.1, Precede-more found k d j ms h.1 first)

mutual
  pub of_json-meaning : (j : Json) → IsOrdered j → of_json j ≡ Some (meaning j)
  of_json-meaning json.null h = refl
  of_json-meaning (json.boolean b) h = refl
  of_json-meaning (json.number s) h = ap (option_map number) (number_is s h) ∙ ap Some (sym (meaning-number s h.0 h.1 h.2))
  of_json-meaning (json.string s) h = refl
  of_json-meaning (json.array js) h = ap (option_map array) (of_items-meaning js h)
  of_json-meaning (json.object ms) h = ap (option_map object) (of_members-meaning no_members ms tt h)

  of_items-meaning : (js : Items) → AreOrdered js → of_items js ≡ Some (items_meaning js)
  of_items-meaning json.no_items h = refl
  of_items-meaning (json.item j js) h = rw (of_json-meaning j h.0, of_items-meaning js h.1) refl

  of_members-meaning : (found : value.Members) (ms : Members) → Precede found ms → AreInOrder ms → of_members ms found ≡ Some (join found (members_meaning ms))
  of_members-meaning found json.no_members p h = ap Some (sym (join-none found))
  of_members-meaning found (json.member k j ms) p h =
      ap (option_and_then (λ d. of_members ms (put k d found))) (of_json-meaning j h.0)
      ∙ ap (of_members ms) (put_last found k (meaning j) j ms p)
      ∙ of_members-meaning (join found (member k (meaning j) no_members)) ms (Precede-more found k (meaning j) j ms p h.1) h.2
      ∙ ap Some (join_again found k (meaning j) (members_meaning ms))

-- a value that opens nothing
pub read_leaf : (b : ℕ) (old rest : List Token) (t : Token) (j seen : Json) → old ≡ t ∷ rest → json.value b (t ∷ rest) ≡ Some (j, rest) → IsOrdered j → seen ≡ j
    → converted of_json (json.value b old) ≡ Some (meaning seen, rest)
read_leaf b old rest t j seen first is h same =
    ap (λ ts. converted of_json (json.value b ts)) first ∙ ap (converted of_json) is ∙ ap (option_map (λ d. (d, rest))) (of_json-meaning j h) ∙ ap (λ i. Some (meaning i, rest)) (sym same)

mutual
  outline-meaning : (j : Json) → IsOrdered j → outline (meaning j) ≡ j
  outline-meaning json.null h = refl
  outline-meaning (json.boolean b) h = refl
  outline-meaning (json.number s) h = ap outline (meaning-number s h.0 h.1 h.2) ∙ ap json.number (sym h.2)
  outline-meaning (json.string s) h = refl
  outline-meaning (json.array js) h = ap json.array (items_outline-meaning js h)
  outline-meaning (json.object ms) h = ap json.object (members_outline-meaning ms h)

  items_outline-meaning : (js : Items) → AreOrdered js → items_outline (items_meaning js) ≡ js
  items_outline-meaning json.no_items h = refl
  items_outline-meaning (json.item j js) h = ap₂ json.item (outline-meaning j h.0) (items_outline-meaning js h.1)

  members_outline-meaning : (ms : Members) → AreInOrder ms → members_outline (members_meaning ms) ≡ ms
  members_outline-meaning json.no_members h = refl
  members_outline-meaning (json.member k j ms) h = ap₂ (json.member k) (outline-meaning j h.0) (members_outline-meaning ms h.2)

mutual
  pub has_float-meaning : (j : Json) → IsOrdered j → has_float (meaning j) ≡ false
  has_float-meaning json.null h = refl
  has_float-meaning (json.boolean b) h = refl
  has_float-meaning (json.number s) h = ap has_float (meaning-number s h.0 h.1 h.2)
  has_float-meaning (json.string s) h = refl
  has_float-meaning (json.array js) h = items_have_float-meaning js h
  has_float-meaning (json.object ms) h = members_have_float-meaning ms h

  items_have_float-meaning : (js : Items) → AreOrdered js → items_have_float (items_meaning js) ≡ false
  items_have_float-meaning json.no_items h = refl
  items_have_float-meaning (json.item j js) h = rw (has_float-meaning j h.0, items_have_float-meaning js h.1) refl

  members_have_float-meaning : (ms : Members) → AreInOrder ms → members_have_float (members_meaning ms) ≡ false
  members_have_float-meaning json.no_members h = refl
  members_have_float-meaning (json.member k j ms) h = rw (has_float-meaning j h.0, members_have_float-meaning ms h.2) refl

mutual
  pub depth-meaning : (j : Json) → depth (meaning j) ≡ tree.depth j
  depth-meaning json.null = refl
  depth-meaning (json.boolean b) = refl
  depth-meaning (json.number s) = refl
  depth-meaning (json.string s) = refl
  depth-meaning (json.array js) = ap suc (items_depth-meaning js)
  depth-meaning (json.object ms) = ap suc (members_depth-meaning ms)

  items_depth-meaning : (js : Items) → items_depth (items_meaning js) ≡ tree.items_depth js
  items_depth-meaning json.no_items = refl
  items_depth-meaning (json.item j js) = ap₂ max (depth-meaning j) (items_depth-meaning js)

  members_depth-meaning : (ms : Members) → members_depth (members_meaning ms) ≡ tree.members_depth ms
  members_depth-meaning json.no_members = refl
  members_depth-meaning (json.member k j ms) = ap₂ max (depth-meaning j) (members_depth-meaning ms)

mutual
  pub HasNumbers-ordered : (j : Json) → IsOrdered j → HasNumbers j
  HasNumbers-ordered json.null h = tt
  HasNumbers-ordered (json.boolean b) h = tt
  HasNumbers-ordered (json.number s) h = subst IsNumber (sym h.2) (IsNumber-decimal h.0 h.1)
  HasNumbers-ordered (json.string s) h = tt
  HasNumbers-ordered (json.array js) h = ItemsHaveNumbers-ordered js h
  HasNumbers-ordered (json.object ms) h = MembersHaveNumbers-ordered ms h

  ItemsHaveNumbers-ordered : (js : Items) → AreOrdered js → ItemsHaveNumbers js
  ItemsHaveNumbers-ordered json.no_items h = tt
  ItemsHaveNumbers-ordered (json.item j js) h = (HasNumbers-ordered j h.0, ItemsHaveNumbers-ordered js h.1)

  MembersHaveNumbers-ordered : (ms : Members) → AreInOrder ms → MembersHaveNumbers ms
  MembersHaveNumbers-ordered json.no_members h = tt
  MembersHaveNumbers-ordered (json.member k j ms) h = (HasNumbers-ordered j h.0, MembersHaveNumbers-ordered ms h.2)

-- ---- the text

pub print-meaning : (j : Json) → IsOrdered j → print (json_tokens j) ≡ compact_text (meaning j)
print-meaning j h = ap (λ i. print (json_tokens i)) (sym (outline-meaning j h)) ∙ print-outline (meaning j)

pub read-meaning : (j : Json) (text : List ℕ) → IsOrdered j → tokens text ≡ json_tokens j → tree.depth j ≤ max_depth → read text ≡ Some (meaning j)
read-meaning j text h same shallow =
    ap (λ o. option_and_then of_json (option_and_then (λ p. if_last p.0 p.1) o)) (ap (json.value max_depth) (same ∙ sym (append-nil (json_tokens j))) ∙ value-json_tokens j max_depth [] shallow)
    ∙ of_json-meaning j h
