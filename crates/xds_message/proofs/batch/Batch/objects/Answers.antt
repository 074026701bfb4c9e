use Rattle.xds_resource.specs.TypedWrites.{TypedWrite}
use Rattle.xds_message.specs.Batches.{IsSound}
use Rattle.xds_message.specs.StampedWrites.{write_object}
use Rattle.xds_message.proofs.BatchLemmas.{All-in_order, map-in_order}
use Rattle.xds_message.proofs.batch.Batch.objects.Goals as goal

pub returns-clause-ok : goal.returns-clause-ok
returns-clause-ok c =
    rw (← c.self.view_is) (map-in_order (λ (x : TypedWrite). write_object x.0 x.1) _ _ _ _ _ _ (rw c.new-values.ensures.items at c.in_ok-push_objects.ensures.ok) c.in_ok-push_objects-2.ensures.ok c.in_ok-push_objects-3.ensures.ok c.in_ok-push_objects-4.ensures.ok c.in_ok-push_objects-5.ensures.ok)

pub returns-clause-sound : goal.returns-clause-sound
returns-clause-sound c =
    rw (← c.self.view_is) (All-in_order IsSound _ c.in_ok-push_objects.ensures.sound c.in_ok-push_objects-2.ensures.sound c.in_ok-push_objects-3.ensures.sound c.in_ok-push_objects-4.ensures.sound c.in_ok-push_objects-5.ensures.sound)
