use Rattle.std.proofs.Common.{◌≡◌, ◌+◌, List, ◌∷◌, [], ◌++◌, map, take, drop, sym, ◌∙◌, subst, arith}
use Rattle.std.specs.List.{AllZip}
use Rattle.std.proofs.lemmas.Slice.Zip.{all_zipped_more}
use Rattle.serde_json.specs.View.{view}
use Rattle.xds_resource.specs.Any.{write_type, stamped_write}
use Rattle.xds_resource.specs.PerType.{PerType}
use Rattle.xds_resource.specs.TypedWrites.{TypedWrite}
use Rattle.xds_resource.specs.Writes.{StampedWrite}
use Rattle.xds_json.proofs.Lists.{AllZip-middle, Reads-refused}
use Rattle.xds_message.specs.Batches.{by_type}
use Rattle.xds_message.specs.StampedWrites.{IsSpelledBy}
use Rattle.xds_message.proofs.BatchLemmas.{by_type-push, map-take-more, around}
use Rattle.xds_message.proofs.batch.batch_of_each.Goals as goal

pub returns-in_err-any_write_of : goal.returns-in_err-any_write_of
returns-in_err-any_write_of c =
    let items = c.args.items.now.items in
    let i = c.loop-item.item-index in
    let within = rw c.deref-item-items.ensures.value at c.loop-item-test.true in
    let is = rw c.deref-item-items.ensures.value at c.item-item.is in
    let all = around view items i c.item-item.result within is in
    Reads-refused (λ (b : PerType (List StampedWrite)). (ws : List TypedWrite) × AllZip IsSpelledBy (map view items) ws × (by_type ws ≡ b)) (IsSpelledBy (view c.item-item.result)) _ _ c.from_residual.result c.any_write_of.result
    c.in_err-any_write_of.field-0.0 c.from_residual.ensures.1 (grind arith) c.any_write_of.ensures
    (λ b spelled. AllZip-middle IsSpelledBy (map view (take i items)) (view c.item-item.result) (map view (drop (i + 1) items)) spelled.0 (subst (λ ds. AllZip IsSpelledBy ds spelled.0) all spelled.1))

pub loop-item-preserved : goal.loop-item-preserved
loop-item-preserved c =
    let items = c.args.items.now.items in
    let i = c.loop-item.item-index in
    let within = rw c.deref-item-items.ensures.value at c.loop-item-test.true in
    let is = rw c.deref-item-items.ensures.value at c.item-item.is in
    let before = c.loop-item.invariant in
    let write = c.in_ok-any_write_of.field-0 in
    let t = write_type write in
    let w = stamped_write write in (
      before.0 ++ (t, w) ∷ [],
      subst (λ ds. AllZip IsSpelledBy ds (before.0 ++ (t, w) ∷ [])) (sym (map-take-more view items i c.item-item.result within is))
          (all_zipped_more IsSpelledBy (map view (take i items)) before.0 (view c.item-item.result) (t, w) before.1 c.in_ok-any_write_of.ensures),
      by_type-push before.0 t w ∙ grind arith,
    )
