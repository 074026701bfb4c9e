use Rattle.std.proofs.Common.{codes, sym, subst}
use Rattle.json.specs.Value.{value_view}
use Rattle.xds_json.specs.Ordered.{meaning}
use Rattle.xds_message.specs.StampedWrites.{SpellsWrite}
use Rattle.xds_message.proofs.InOrder.{object_of_member, spells_put}
use Rattle.xds_message.proofs.ReadWrites.{IsHeaded}
use Rattle.xds_message.proofs.in_order.put_in.Goals as goal

pub returns : goal.returns
returns g c =
    let d = meaning (value_view c.args.value.now) in
    let stamp = c.in_ok-stamp.stamp in
    let headed : IsHeaded d g.T.ResourceType.TYPE c.in_ok-name.name.now stamp.counter stamp.writer c.in_ok-groups.groups = record {
      is_object = object_of_member (codes "typeUrl") d _ c.requires.typed;
      type_url = c.requires.typed;
      name = c.in_ok-name.ensures.found;
      valid = c.in_ok-name.ensures.valid;
      counter = c.in_ok-stamp.ensures.counter;
      writer = c.in_ok-stamp.ensures.writer;
      stamp = stamp.in_range;
      groups = c.in_ok-groups.ensures;
    } in
    let resource = c.in_ok-resource.ensures in
    subst (SpellsWrite d g.T.ResourceType.TYPE) (sym c.put.ensures)
    (spells_put d g.T.ResourceType.TYPE c.in_ok-name.name.now stamp.counter stamp.writer c.in_ok-groups.groups (meaning (value_view c.in_ok-body.body.now)) c.in_ok-resource.resource headed (sym c.in_ok-body.ensures.found) resource.0 resource.1)
