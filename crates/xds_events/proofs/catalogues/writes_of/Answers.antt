use Rattle.std.proofs.Common.{◌∷◌, [], ◌++◌, sym, ◌∙◌}
use Rattle.xds_message.proofs.BatchLemmas.{map-take-more}
use Rattle.xds_events.proofs.catalogues.writes_of.Goals as goal

pub loop-write-preserved : goal.loop-write-preserved
loop-write-preserved g c =
    c.in_ok-push.ensures.items ∙ (λ i. c.loop-write.invariant i ++ c.in_ok-try_copy.ensures.copy i ∷ [])
    ∙ sym (map-take-more (λ w. w.now) c.deref-write-items.result.now c.loop-write.write-index c.write-item.result c.loop-write-test.true c.write-item.is)
