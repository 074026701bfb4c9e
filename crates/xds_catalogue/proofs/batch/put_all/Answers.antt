use Rattle.std.proofs.Common.{length, arith, sym, ap, ◌∙◌}
use Rattle.std.proofs.lemmas.List.{nil_from_length}
use Rattle.xds_catalogue.specs.Tables.{with_counts}
use Rattle.xds_catalogue.proofs.Batches.{joins_start, room_left, joins_more, joins_done, all_back}
use Rattle.xds_catalogue.proofs.batch.put_all.Goals as goal

pub loop-write-init : goal.loop-write-init
loop-write-init g c =
    let gives = c.into_iter-write-iterator.ensures.into_iter_gives in
    record {
      joins = rw (gives.0, c.new-displaced.ensures.items) (joins_start c.args.tables.now c.args.writes.items c.requires.sound);
      counted = gives.1 ∙ c.args.writes.ok.0 ∙ ap length (sym gives.0);
    }

pub put_news-requires-clause-room : goal.put_news-requires-clause-room
put_news-requires-clause-room g c =
    let step = c.in-Some.ensures.steps in
    let so_far = rw step.0 at c.loop-write.invariant.joins in
    room_left c.args.tables.now c.loop-write.tables c.loop-write.displaced.items c.in-Some.write _ c.args.writes.items so_far c.requires.room

pub loop-write-preserved : goal.loop-write-preserved
loop-write-preserved g c =
    let step = c.in-Some.ensures.steps in
    let so_far = rw step.0 at c.loop-write.invariant.joins in
    let counted = c.loop-write.invariant.counted in
    let shorter = ap length step.0 in
    record {
      joins = joins_more _ _ _ _ _ c.in-Some.write _ _ so_far c.in_default.ensures.sound c.in_default.ensures.joins c.put_news.ensures.back;
      counted = omega (arith, step.1, counted, shorter);
    }

pub returns-in-Err-clause-err : goal.returns-in-Err-clause-err
returns-in-Err-clause-err g c =
    let step = c.in-Some.ensures.steps in
    let so_far = rw step.0 at c.loop-write.invariant.joins in
    c.set_counts.ensures ∙ (λ i. with_counts c.take_all_back.new.tables (c.changes-changes.ensures i) (c.greatest-greatest.ensures i))
    ∙ all_back c.args.tables.now c.put_news.new.tables c.take_all_back.new.tables c.put_news.new.displaced.items (λ changes greatest. c.put_news.ensures.back changes greatest ∙ so_far.back changes greatest) c.take_all_back.ensures

pub returns-clause-joins : goal.returns-clause-joins
returns-clause-joins g c =
    let so_far = rw (nil_from_length _ (sym c.loop-write.invariant.counted ∙ c.in-None.ensures.steps.0)) at c.loop-write.invariant.joins in
    joins_done c.args.tables.now c.loop-write.tables c.loop-write.displaced.items c.args.writes.items so_far

pub returns-clause-back : goal.returns-clause-back
returns-clause-back g c = c.loop-write.invariant.joins.back c.args.tables.now.changes c.args.tables.now.greatest
