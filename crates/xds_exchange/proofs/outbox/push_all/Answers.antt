use Rattle.std.proofs.Common.{◌∷◌, [], ◌++◌, map, take, sym, ap, ◌∙◌, append_assoc}
use Rattle.std.proofs.lemmas.List.{map-append}
use Rattle.xds_resource.specs.Any.{stamped_write}
use Rattle.xds_resource.specs.PerType.{at}
use Rattle.xds_resource.specs.Writes.{StampedWrite}
use Rattle.xds_message.specs.Batches.{typed}
use Rattle.xds_message.proofs.BatchLemmas.{map-take-more}
use Rattle.xds_exchange.specs.Parts.{typed_write}
use Rattle.xds_exchange.proofs.outbox.push_all.Goals as goal

pub loop-index-preserved : goal.loop-index-preserved
loop-index-preserved c =
    let kind = c.args.kind in
    let writes = at c.args.batch.now kind in
    let i = c.loop-index.index in
    let write = c.in_ok-write_at.field-0 in
    let w = stamped_write write in
    let below = rw c.len_of-index-end.ensures at c.loop-index-test.true in
    let is = ap (λ p. p.1) (c.in_ok-write_at.ensures.typed w) in
    let kept = c.in_ok-write_at.ensures.typed w ∙ ap (λ (x : StampedWrite). (kind, x)) (sym is) in
    ap (map typed_write) c.in_ok-push.ensures.items ∙ map-append typed_write c.loop-index.all.items (write ∷ []) ∙ (λ j. c.loop-index.invariant j ++ kept j ∷ [])
    ∙ append_assoc (map typed_write c.args.all.now.items) (typed kind (take i writes)) ((kind, w) ∷ [])
    ∙ ap (λ ys. map typed_write c.args.all.now.items ++ ys) (sym (map-take-more (λ (x : StampedWrite). (kind, x)) writes i w below is))
