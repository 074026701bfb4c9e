use Rattle.std.proofs.Common.{ap, ◌∙◌}
use Rattle.std.specs.FinSet as set
use Rattle.xds_interest.specs.Touches.{sotw_touch}
use Rattle.xds_interest.proofs.Made.{selection, sotw_touch_is, differ}
use Rattle.xds_interest.proofs.interest.Interest.touched_until.Goals as goal

pub returns-clause-ok : goal.returns-clause-ok
returns-clause-ok g c =
    let old = selection c.self.inside.star c.self.inside.names c.self.inside.cluster in
    let new = selection c.next.inside.star c.next.inside.names c.next.inside.cluster in
    c.of_parts.ensures
    ∙ sotw_touch_is old new _ _ (differ old.star new.star)
    (c.in_ok-insert_difference-2.ensures.ok
    ∙ (λ i. set.union ((c.in_ok-insert_difference.ensures.ok ∙ ap (λ s. set.union s (set.difference old.names new.names)) c.new-touched.ensures) i) (set.difference new.names old.names)))
    ∙ (λ i. sotw_touch (c.self.view_is i) (c.next.view_is i))
