use Rattle.std.proofs.Common.{◌+◌, take, arith, sym, ap, ◌∙◌}
use Rattle.std.specs.FinMap as finmap
use Rattle.xds_catalogue.proofs.News.{changes_after-le}
use Rattle.xds_catalogue.proofs.Batches.{changes_after-more, length_take}
use Rattle.xds_catalogue.proofs.batch.count_changes.Goals as goal
use Rattle.xds_catalogue.proofs.batch.count_changes.Goals.{then-is_news_after, else-is_news_after}

pub overflow_add-count : goal.overflow_add-count
overflow_add-count g c =
    let few = changes_after-le (finmap.values c.args.tables.now.named.entries) (take c.loop-place.place c.args.writes.now) in
    let front = length_take c.loop-place.place c.args.writes.now in
    let here = c.loop-place-test.true in
    let count = c.loop-place.invariant in
    let bound = c.requires.few in
    omega (arith, few, front, here, count, bound)

pub loop-place-preserved : goal.loop-place-preserved
loop-place-preserved g c =
    let before = finmap.values c.args.tables.now.named.entries in
    elim c.if-is_news_after.branch [
      | then-is_news_after w ↦ w.count-is ∙ ap (λ n. n + 1) c.loop-place.invariant ∙ sym (changes_after-more before c.args.writes.now c.loop-place.place c.index-writes-place.result _ c.loop-place-test.true c.index-writes-place.is (sym c.is_news_after.ensures ∙ w.if-is_news_after.true))
      | else-is_news_after w ↦ w.count-is ∙ c.loop-place.invariant ∙ sym (changes_after-more before c.args.writes.now c.loop-place.place c.index-writes-place.result _ c.loop-place-test.true c.index-writes-place.is (sym c.is_news_after.ensures ∙ w.if-is_news_after.false))
    ]
