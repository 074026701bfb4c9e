use Rattle.std.proofs.Common.{◌≡◌, ◌-◌, ◌<◌, ◌≤◌, [], ◌∷◌, ◌++◌, length, Some, None, sym, ap, ◌∙◌, subst, arith, rules}
use Rattle.json.specs.Token.{Token}
use Rattle.json.specs.Json as json
use Rattle.json.specs.Json.{parse_map, after_end_array, read_key, items, members, value}
use Rattle.json.specs.Reads.{token_of}
use Rattle.json.specs.Tree.{items_depth, members_depth}
use Rattle.json.specs.Value.{value_view, items_view, members_view}
use Rattle.json.specs.declared.value.Value.{String, Number, Bool, Null, the_lemmas}
use Rattle.json.proofs.Grammar.{value_is, value-begin_array, value-begin_object, read_key-shorter}
use Rattle.json.proofs.Trees.{view-Array, view-Object}
use Rattle.serde_json.specs.Data.{array, object, put}
use Rattle.serde_json.specs.Read.{of_json, of_items, of_members, converted}
use Rattle.xds_json.specs.Ordered.{IsOrdered, AreOrdered, AreInOrder, meaning, members_meaning}
use Rattle.xds_json.specs.Placed.{placed}
use Rattle.xds_json.proofs.Grammars.{converted-array, converted-object, item_read, items_over, member_read, members_over, items_before, items_before-no_items, one_more_item, none_before, AreOrdered-push, items_depth-push}
use Rattle.xds_json.proofs.Meanings.{read_leaf}
use Rattle.xds_json.proofs.Places.{AreInOrder-placed, members_meaning-placed, members_depth-placed}
use Rattle.xds_json.proofs.reading.+read.Goals as goal

pub read-returns-in-String-clause-reads : goal.read-returns-in-String-clause-reads
read-returns-in-String-clause-reads t c = λ b deep.
    let first : c.args.reader.now ≡ token_of c.in_ok-token.token ∷ c.next.new.self = grind arith in
    let is : c.args.reader.now ≡ Token.string c.in-String.text.now ∷ c.next.new.self = grind (arith, first) in
    let seen : value_view (String c.in-String.text) ≡ json.string c.in-String.text.now = search (rules, the_lemmas) in
    read_leaf b c.args.reader.now c.next.new.self _ _ _ is (value_is b _) tt seen

pub read-returns-in_ok-decimal_number-in-Number-clause-reads : goal.read-returns-in_ok-decimal_number-in-Number-clause-reads
read-returns-in_ok-decimal_number-in-Number-clause-reads t c = λ b deep.
    let first : c.args.reader.now ≡ token_of c.in_ok-token.token ∷ c.next.new.self = grind arith in
    let is : c.args.reader.now ≡ Token.number c.in-Number.text.now ∷ c.next.new.self = grind (arith, first) in
    let seen : value_view (Number c.in-Number.text) ≡ json.number c.in-Number.text.now = search (rules, the_lemmas) in
    let n = c.in_ok-decimal_number-in-Number in
    read_leaf b c.args.reader.now c.next.new.self _ _ _ is (value_is b _) (n.field-0, n.ensures.shortest.0, n.ensures.shortest.1) seen

pub read-returns-in_ok-decimal_number-in-Number-clause-ordered : goal.read-returns-in_ok-decimal_number-in-Number-clause-ordered
read-returns-in_ok-decimal_number-in-Number-clause-ordered t c =
    let seen : value_view (Number c.in-Number.text) ≡ json.number c.in-Number.text.now = search (rules, the_lemmas) in
    let n = c.in_ok-decimal_number-in-Number in
    subst IsOrdered (sym seen) (n.field-0, n.ensures.shortest.0, n.ensures.shortest.1)

pub read-returns-in-Bool-clause-reads : goal.read-returns-in-Bool-clause-reads
read-returns-in-Bool-clause-reads t c = λ b deep.
    let first : c.args.reader.now ≡ token_of c.in_ok-token.token ∷ c.next.new.self = grind arith in
    let is : c.args.reader.now ≡ Token.boolean c.in-Bool.b ∷ c.next.new.self = grind (arith, first) in
    let seen : value_view (Bool c.in-Bool.b) ≡ json.boolean c.in-Bool.b = search (rules, the_lemmas) in
    read_leaf b c.args.reader.now c.next.new.self _ _ _ is (value_is b _) tt seen

pub read-returns-in-Null-clause-reads : goal.read-returns-in-Null-clause-reads
read-returns-in-Null-clause-reads t c = λ b deep.
    let first : c.args.reader.now ≡ token_of c.in_ok-token.token ∷ c.next.new.self = grind arith in
    let is : c.args.reader.now ≡ Token.null ∷ c.next.new.self = grind (arith, first) in
    let seen : value_view Null ≡ json.null = search (rules, the_lemmas) in
    read_leaf b c.args.reader.now c.next.new.self _ _ _ is (value_is b _) tt seen

pub read-returns-in_ok-read_items-in-BeginArray-clause-reads : goal.read-returns-in_ok-read_items-in-BeginArray-clause-reads
read-returns-in_ok-read_items-in-BeginArray-clause-reads t c = λ b deep.
    let first : c.args.reader.now ≡ token_of c.in_ok-token.token ∷ c.next.new.self = grind arith in
    let found = c.in_ok-read_items-in-BeginArray in
    let opened = ap (converted of_json) (ap (value b) (first ∙ ap (λ k. token_of k ∷ c.next.new.self) c.in-BeginArray.is) ∙ value-begin_array b c.next.new.self (omega (arith, deep))) ∙ converted-array (items (value (b - 1)) (length c.next.new.self) c.next.new.self) in
    opened ∙ ap (parse_map array) (found.ensures.reads (b - 1) (omega (arith, deep))) ∙ ap (λ j. Some (meaning j, c.read_items.new.reader)) (sym (view-Array found.field-0))

pub read-returns-in_ok-read_members-in-BeginObject-clause-reads : goal.read-returns-in_ok-read_members-in-BeginObject-clause-reads
read-returns-in_ok-read_members-in-BeginObject-clause-reads t c = λ b deep.
    let first : c.args.reader.now ≡ token_of c.in_ok-token.token ∷ c.next.new.self = grind arith in
    let found = c.in_ok-read_members-in-BeginObject in
    let opened = ap (converted of_json) (ap (value b) (first ∙ ap (λ k. token_of k ∷ c.next.new.self) c.in-BeginObject.is) ∙ value-begin_object b c.next.new.self (omega (arith, deep))) ∙ converted-object (members (value (b - 1)) (length c.next.new.self) c.next.new.self) in
    opened ∙ ap (parse_map object) (found.ensures.reads (b - 1) (omega (arith, deep))) ∙ ap (λ j. Some (meaning j, c.read_members.new.reader)) (sym (view-Object found.field-0))

pub read-returns-in_ok-read_items-in-BeginArray-clause-ordered : goal.read-returns-in_ok-read_items-in-BeginArray-clause-ordered
read-returns-in_ok-read_items-in-BeginArray-clause-ordered t c =
    let found = c.in_ok-read_items-in-BeginArray in
    subst IsOrdered (sym (view-Array found.field-0)) found.ensures.ordered

pub read-returns-in_ok-read_members-in-BeginObject-clause-ordered : goal.read-returns-in_ok-read_members-in-BeginObject-clause-ordered
read-returns-in_ok-read_members-in-BeginObject-clause-ordered t c =
    let found = c.in_ok-read_members-in-BeginObject in
    subst IsOrdered (sym (view-Object found.field-0)) found.ensures.ordered

pub read_items-items-init : goal.read_items-items-init
read_items-items-init t c =
    let start = c.new-found.ensures.items in
    let old = c.args.reader.now in (
      length old,
      omega arith,
      λ b deep. let all = converted of_items (items (value b) (length old) old) in none_before all ∙ ap (λ vs. parse_map (items_before vs) all) (sym start),
      omega arith,
      subst (λ vs. AreOrdered (items_view vs)) (sym start) tt,
      subst (λ vs. items_depth (items_view vs) ≤ c.args.depth) (sym start) (omega arith),
    )

pub read_items-items-preserved : goal.read_items-items-preserved
read_items-items-preserved t c =
    let l = c.items in
    let n = l.invariant.0 in
    let going : (after_end_array l.reader ≡ None) × (c.take_end_array.new.self ≡ l.reader) = grind arith in
    let done = c.in_ok-item.ensures in
    let v = c.in_ok-item.item in
    let r = c.read.new.reader in
    let less : length r < length l.reader = rw (← going.1) done.shorter in
    let pushed : c.push.new.self.items ≡ l.found.items ++ v ∷ [] = search rules in
    let turns : 0 < n = omega (arith, l.invariant.1) in (
      n - 1,
      omega (arith, l.invariant.1),
      λ b deep. l.invariant.2 b deep ∙ ap (parse_map (items_before l.found.items)) (item_read (value b) n l.reader r (meaning (value_view v)) turns going.0 (rw (← going.1) (done.reads b deep)))
          ∙ one_more_item l.found.items v _ ∙ ap (λ vs. parse_map (items_before vs) (converted of_items (items (value b) (n - 1) r))) (sym pushed),
      omega (arith, l.invariant.3),
      subst (λ vs. AreOrdered (items_view vs)) (sym pushed) (AreOrdered-push l.found.items v l.invariant.4 done.ordered),
      subst (λ vs. items_depth (items_view vs) ≤ c.args.depth) (sym pushed) (items_depth-push l.found.items v c.args.depth l.invariant.5 done.nests),
    )

pub read_items-returns-clause-reads : goal.read_items-returns-clause-reads
read_items-returns-clause-reads t c = λ b deep.
    let l = c.items in
    let r = c.take_end_array.new.self in
    l.invariant.2 b deep ∙ ap (parse_map (items_before l.found.items)) (items_over (value b) l.invariant.0 l.reader r l.invariant.1 (grind arith)) ∙ ap (λ ds. Some (ds, r)) (items_before-no_items l.found.items)

pub read_members-members-init : goal.read_members-members-init
read_members-members-init t c =
    let start = c.new-found.ensures.items in
    let old = c.args.reader.now in (
      length old,
      omega arith,
      λ b deep. ap (λ es. converted (λ ms. of_members ms (members_meaning (members_view es))) (members (value b) (length old) old)) (sym start),
      omega arith,
      subst (λ es. AreInOrder (members_view es)) (sym start) tt,
      subst (λ es. members_depth (members_view es) ≤ c.args.depth) (sym start) (omega arith),
    )

pub read_members-place-requires : goal.read_members-place-requires
read_members-place-requires t c = c.members.invariant.4

pub read_members-members-preserved : goal.read_members-members-preserved
read_members-members-preserved t c =
    let l = c.members in
    let n = l.invariant.0 in
    let old = members_view l.found.items in
    let k = c.in-Some.key.now in
    let s = c.next_key.new.self in
    let named : read_key l.reader ≡ Some (Some k, s) = grind arith in
    let done = c.in_ok-member.ensures in
    let j = value_view c.in_ok-member.member in
    let r = c.read.new.reader in
    let less = read_key-shorter l.reader (Some k) s named in
    let lesser = done.shorter in
    let put_in : members_view c.place.new.found.items ≡ placed k j old = c.in_ok-place.ensures in
    let meant : members_meaning (members_view c.place.new.found.items) ≡ put k (meaning j) (members_meaning old) = ap members_meaning put_in ∙ members_meaning-placed k j old in
    let turns : 0 < n = omega (arith, l.invariant.1) in (
      n - 1,
      omega (arith, l.invariant.1),
      λ b deep. l.invariant.2 b deep ∙ member_read (value b) (members_meaning old) n k l.reader s r (meaning j) turns named (done.reads b deep)
          ∙ ap (λ found. converted (λ ms. of_members ms found) (members (value b) (n - 1) r)) (sym meant),
      omega (arith, l.invariant.3),
      subst AreInOrder (sym put_in) (AreInOrder-placed k j old done.ordered l.invariant.4),
      subst (λ ms. members_depth ms ≤ c.args.depth) (sym put_in) (members_depth-placed k j old c.args.depth done.nests l.invariant.5),
    )

pub read_members-returns-clause-reads : goal.read_members-returns-clause-reads
read_members-returns-clause-reads t c = λ b deep.
    let l = c.members in
    l.invariant.2 b deep ∙ members_over (value b) (members_meaning (members_view l.found.items)) l.invariant.0 l.reader c.next_key.new.self l.invariant.1 (grind arith)
