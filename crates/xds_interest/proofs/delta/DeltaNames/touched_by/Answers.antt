use Rattle.std.proofs.Common.{◌∙◌}
use Rattle.std.specs.FinSet as set
use Rattle.xds_interest.specs.Interests.{names_among}
use Rattle.xds_interest.specs.Delta.{mention_of}
use Rattle.xds_interest.specs.Touches.{delta_touch}
use Rattle.xds_interest.proofs.Made.{delta_touch_is}
use Rattle.xds_interest.proofs.delta.DeltaNames.touched_by.Goals as goal

pub returns-clause-ok : goal.returns-clause-ok
returns-clause-ok g c =
    let m = mention_of c.args.subscribe.now c.args.unsubscribe.now in
    c.of_parts.ensures
    ∙ delta_touch_is g.T.ResourceType.TYPE m _ _ (c.touches_all-all.ensures ∙ (λ i. (delta_touch (c.TYPE.ensures i) m).all))
    (c.in_ok-insert_names-2.ensures.ok
    ∙ (λ i. set.union (c.in_ok-insert_names.ensures.ok i) (set.from_list (names_among (c.TYPE-3.ensures i) m.unsubscribe)))
    ∙ (λ i. set.union (set.union (c.new-names.ensures i) (set.from_list (names_among (c.TYPE-2.ensures i) m.subscribe))) (set.from_list (names_among g.T.ResourceType.TYPE m.unsubscribe))))
