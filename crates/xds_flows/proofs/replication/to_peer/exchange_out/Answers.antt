use Rattle.std.proofs.Common.{refl, ◌∙◌}
use Rattle.xds_flows.proofs.Tellings.{telling-failed, telling-more, telling-start, telling-stopped, telling-unlinked}
use Rattle.xds_flows.proofs.replication.to_peer.exchange_out.Goals as goal

pub loop-init : goal.loop-init
loop-init g c = (telling-start _ _ _ _ _ c.nothing-peer.ensures, refl, refl)

pub loop-preserved-in-Some-changed : goal.loop-preserved-in-Some-changed
loop-preserved-in-Some-changed g c =
    (telling-more _ _ _ _ _ _ _ _ _ _ _ _ _ _ c.tell.result c.loop.invariant.0 c.tell.ensures.told, c.tell.ensures.end ∙ c.loop.invariant.1, c.tell.ensures.source ∙ c.loop.invariant.2)

pub loop-preserved : goal.loop-preserved
loop-preserved g c =
    (telling-more _ _ _ _ _ _ _ _ _ _ _ _ _ _ c.tell.result c.loop.invariant.0 c.tell.ensures.told, c.tell.ensures.end ∙ c.loop.invariant.1, c.tell.ensures.source ∙ c.loop.invariant.2)

pub returns-in-None-changed-clause-told : goal.returns-in-None-changed-clause-told
returns-in-None-changed-clause-told g c = telling-stopped _ _ _ _ _ _ _ _ _ _ _ _ _ _ c.loop.invariant.0 (rw c.in-Ok-true.field-0-test at c.in-Ok-true.ensures.told)

pub returns-in-Ok-false-clause-told : goal.returns-in-Ok-false-clause-told
returns-in-Ok-false-clause-told g c = telling-unlinked _ _ _ _ _ _ _ _ _ _ _ _ _ _ c.loop.invariant.0 (rw c.in-Ok-false.field-0-test at c.in-Ok-false.ensures.told)

pub returns-in-None-changed-2-clause-told : goal.returns-in-None-changed-2-clause-told
returns-in-None-changed-2-clause-told g c = telling-failed _ _ _ _ _ _ _ _ _ _ _ _ _ _ _ c.loop.invariant.0 c.in-Err.ensures.told
