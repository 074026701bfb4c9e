use Rattle.std.proofs.Common.{arith, codes}
use Rattle.serde_json.specs.Find.{get}
use Rattle.serde_json.specs.View.{view}
use Rattle.xds_json.proofs.Lists.{Reads-refused}
use Rattle.xds_message.specs.StampedWrites.{AreGroups, SpellsWrite}
use Rattle.xds_message.proofs.ReadWrites.{IsHeaded, Reads-put, Reads-deletion}
use Rattle.xds_message.proofs.writes.write_of.Goals as goal

pub returns-in_err-groups : goal.returns-in_err-groups
returns-in_err-groups g c =
    Reads-refused (SpellsWrite (view c.args.value.now) g.T.ResourceType.TYPE) (AreGroups (get (codes "groups") (view c.args.value.now))) _ _ c.from_residual.result c.groups_field.result c.in_err-groups.field-0.0
    c.from_residual.ensures.1 (grind arith) c.groups_field.ensures (λ w s. (w.groups, s.groups))

pub returns-in-Some : goal.returns-in-Some
returns-in-Some g c =
    let d = view c.args.value.now in
    let stamp = c.in-Some-Some.stamp in
    let headed : IsHeaded d g.T.ResourceType.TYPE c.in-Some-Some.name.now stamp.counter stamp.writer c.in_ok-groups.groups = record {
      is_object = c.requires.is_object;
      type_url = c.requires.typed;
      name = c.in-Some-Some.ensures.found;
      valid = c.in-Some-Some.ensures.valid;
      counter = c.in-Some-Some.ensures'.counter;
      writer = c.in-Some-Some.ensures'.writer;
      stamp = stamp.in_range;
      groups = c.in_ok-groups.ensures;
    } in
    Reads-put d g.T.ResourceType.TYPE c.in-Some-Some.name.now stamp.counter stamp.writer c.in_ok-groups.groups headed (view c.in-Some.body.now) _ c.put_of.result (rw c.in-Some.is at c.set_field.ensures) c.put_of.ensures

pub returns-in-None : goal.returns-in-None
returns-in-None g c =
    let d = view c.args.value.now in
    let stamp = c.in-Some-Some.stamp in
    let headed : IsHeaded d g.T.ResourceType.TYPE c.in-Some-Some.name.now stamp.counter stamp.writer c.in_ok-groups.groups = record {
      is_object = c.requires.is_object;
      type_url = c.requires.typed;
      name = c.in-Some-Some.ensures.found;
      valid = c.in-Some-Some.ensures.valid;
      counter = c.in-Some-Some.ensures'.counter;
      writer = c.in-Some-Some.ensures'.writer;
      stamp = stamp.in_range;
      groups = c.in_ok-groups.ensures;
    } in
    Reads-deletion d g.T.ResourceType.TYPE c.in-Some-Some.name.now stamp.counter stamp.writer c.in_ok-groups.groups headed _ c.deletion_of.result (rw c.in-None.is at c.set_field.ensures) c.deletion_of.ensures
