use Rattle.std.proofs.Common.{◌≡◌, ◌≤◌, ◌+◌, ◌∷◌, drop, true, false, sym, ap, ◌∙◌, subst, arith, rules}
use Rattle.json.specs.Tree.{depth, members_depth}
use Rattle.json.specs.Value.{value_view, members_view}
use Rattle.serde_json.specs.Find.{get_member}
use Rattle.std.specs.Str.{bytes_eq}
use Rattle.xds_json.specs.Ordered.{AreInOrder, members_meaning}
use Rattle.xds_json.proofs.Members.{get_member-member, from_here}
use Rattle.xds_json.proofs.looking.find.Goals as goal

pub returns-then-eq-clause-found : goal.returns-then-eq-clause-found
returns-then-eq-clause-found c =
    let es = c.deref-member-items.result.now in
    let i = c.loop-member.member-index in
    let m = c.member-item.result in
    let name = c.args.name.now in
    let front : drop i es ≡ m ∷ drop (i + 1) es = from_here es i m (omega arith) c.member-item.is in
    let same : bytes_eq name m.0.now ≡ true = grind arith in
    let whole : es ≡ c.args.members.now.items = search rules in
    sym (ap (λ xs. get_member name (members_meaning (members_view xs))) (sym whole) ∙ c.loop-member.invariant.0 ∙ ap (λ xs. get_member name (members_meaning (members_view xs))) front ∙ get_member-member name m.0.now _ _ true same)

pub returns-then-eq-clause-ordered : goal.returns-then-eq-clause-ordered
returns-then-eq-clause-ordered c =
    let es = c.deref-member-items.result.now in
    let front = from_here es c.loop-member.member-index c.member-item.result (omega arith) c.member-item.is in
    (subst (λ xs. AreInOrder (members_view xs)) front c.loop-member.invariant.1).0

pub returns-then-eq-clause-nests : goal.returns-then-eq-clause-nests
returns-then-eq-clause-nests c =
    let es = c.deref-member-items.result.now in
    let front = from_here es c.loop-member.member-index c.member-item.result (omega arith) c.member-item.is in
    let left = subst (λ xs. members_depth (members_view xs) ≤ members_depth (members_view es)) front c.loop-member.invariant.2 in
    let whole : es ≡ c.args.members.now.items = search rules in
    subst (λ xs. depth (value_view c.member-item.result.1) ≤ members_depth (members_view xs)) whole (omega (arith, left))

pub loop-member-preserved : goal.loop-member-preserved
loop-member-preserved c =
    let es = c.deref-member-items.result.now in
    let i = c.loop-member.member-index in
    let m = c.member-item.result in
    let name = c.args.name.now in
    let front : drop i es ≡ m ∷ drop (i + 1) es = from_here es i m (omega arith) c.member-item.is in
    let other : bytes_eq name m.0.now ≡ false = grind arith in
    let left = subst (λ xs. members_depth (members_view xs) ≤ members_depth (members_view es)) front c.loop-member.invariant.2 in (
      c.loop-member.invariant.0 ∙ ap (λ xs. get_member name (members_meaning (members_view xs))) front ∙ get_member-member name m.0.now _ _ false other,
      (subst (λ xs. AreInOrder (members_view xs)) front c.loop-member.invariant.1).2,
      omega (arith, left),
    )
