use Rattle.std.proofs.Common.{[], ◌∷◌, map, false, string_bytes, append_assoc, arith}
use Rattle.serde_json.specs.View.{items_of}
use Rattle.serde_json.specs.Written.{items_text}
use Rattle.xds_resource.proofs.BoolsAndLists.{drop_here}
use Rattle.xds_message.proofs.JoinedLemmas.{item_joined, items_closed}
use Rattle.xds_message.proofs.joining.join_items.Goals as goal

pub loop-item-init : goal.loop-item-init
loop-item-init g c =
    rw c.in_ok-push_str.ensures.bytes (append_assoc (string_bytes c.args.out.now) (91 ∷ []) (items_text false (items_of (map g.I.Join.json c.args.items.now))))

pub loop-item-preserved : goal.loop-item-preserved
loop-item-preserved g c =
    let i = c.loop-item.item-index in
    let x = c.item-item.result in
    let here = drop_here c.args.items.now i x x (omega arith) c.item-item.is in
    item_joined g.I.Join.json c.args.items.now i x c.loop-item.later _ _ _ _ here c.loop-item.invariant c.in_ok-join_comma.ensures.ok c.in_ok-join.ensures.ok

pub returns-clause-ok : goal.returns-clause-ok
returns-clause-ok g c =
    items_closed g.I.Join.json c.args.items.now c.loop-item.item-index c.loop-item.later _ _ _ (omega arith) c.loop-item.invariant c.in_ok-push_str-2.ensures.bytes
