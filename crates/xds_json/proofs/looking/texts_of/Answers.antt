use Rattle.std.proofs.Common.{◌≡◌, ◌≤◌, length, map, sym, ap, ◌∙◌, subst, rules}
use Rattle.std.proofs.lemmas.List.{take_all}
use Rattle.json.specs.Value.{value_view}
use Rattle.serde_json.specs.View.{items_of}
use Rattle.xds_json.specs.Ordered.{meaning}
use Rattle.xds_json.proofs.Members.{items_meaning-map}
use Rattle.xds_json.proofs.looking.texts_of.Goals as goal

pub returns : goal.returns
returns c =
    let vs = c.args.items.now.items in
    let whole : c.deref-item-items.result.now ≡ vs = search rules in
    let all = take_all c.loop-item.item-index vs (subst (λ xs. length xs ≤ c.loop-item.item-index) whole c.loop-item-test.false) in
    items_meaning-map vs ∙ ap (λ xs. items_of (map (λ v. meaning (value_view v)) xs)) (sym all) ∙ ap items_of c.loop-item.invariant
