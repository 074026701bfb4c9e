use Rattle.std.proofs.Common.{◌∷◌, [], ◌++◌, map, take, sym, ap, ◌∙◌, subst, append_assoc}
use Rattle.std.proofs.lemmas.List.Elements.{All-more}
use Rattle.std.proofs.lemmas.List.{map-append}
use Rattle.serde_json.specs.View.{view}
use Rattle.xds_resource.specs.Writes.{StampedWrite}
use Rattle.xds_message.specs.Batches.{IsSound}
use Rattle.xds_message.specs.StampedWrites.{write_object}
use Rattle.xds_message.proofs.BatchLemmas.{map-take-more}
use Rattle.xds_message.proofs.batch.push_objects.Goals as goal

pub loop-write-preserved : goal.loop-write-preserved
loop-write-preserved g c =
    let t = g.T.ResourceType.TYPE in
    let writes = c.args.writes.now.items in
    let i = c.loop-write.write-index in
    let within = rw c.deref-write-items.ensures.value at c.loop-write-test.true in
    let is = rw c.deref-write-items.ensures.value at c.write-item.is in
    let before = c.loop-write.invariant in
    let f = write_object t in
    let grown = map-append view c.loop-write.values.items (c.in_ok-object_of_write.field-0 ∷ []) in (
      ap (map view) c.in_ok-push.ensures.items ∙ grown ∙ (λ j. before.0 j ++ c.in_ok-object_of_write.ensures.ok j ∷ [])
          ∙ append_assoc (map view c.args.values.now.items) (map f (take i writes)) (f c.write-item.result ∷ [])
          ∙ ap (λ ys. map view c.args.values.now.items ++ ys) (sym (map-take-more f writes i c.write-item.result within is)),
      All-more (λ (w : StampedWrite). IsSound (t, w)) writes i c.write-item.result within before.1 (subst (λ (w : StampedWrite). IsSound (t, w)) is c.in_ok-object_of_write.ensures.sound),
    )
