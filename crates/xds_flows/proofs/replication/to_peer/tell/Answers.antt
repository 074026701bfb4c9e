use Rattle.std.proofs.Common.{refl}
use Rattle.xds_flows.proofs.Tellings.{turn_given_up, turn_lost, turn_merged, turn_refused}
use Rattle.xds_flows.proofs.replication.to_peer.tell.Goals as goal

pub returns-in-Err-clause-told : goal.returns-in-Err-clause-told
returns-in-Err-clause-told g c = turn_refused _ _ _ _ _ _ _ _ _ _ _ c.nothing.ensures refl refl c.in-Err.ensures

pub returns-in-Ok-Merged-clause-told : goal.returns-in-Ok-Merged-clause-told
returns-in-Ok-Merged-clause-told g c =
    turn_merged _ _ _ _ _ _ _ _ _ _ _ c.changed_in-batch.result.0 _ c.in-Ok.ensures c.changed_in-batch.ensures.batch c.changed_in-batch.ensures.marks c.in-Ok-Merged.field-0-is c.in-Ok-Merged.ensures.settles

pub returns-in-Ok-Lost-clause-told : goal.returns-in-Ok-Lost-clause-told
returns-in-Ok-Lost-clause-told g c =
    turn_lost _ _ _ _ _ _ _ _ _ _ _ c.changed_in-batch.result.0 _ c.in-Ok.ensures c.changed_in-batch.ensures.batch c.nothing.ensures c.in-Ok-Lost.field-0-is c.in-Ok-Lost.ensures.settles

pub returns-in-Err-settle-clause-told : goal.returns-in-Err-settle-clause-told
returns-in-Err-settle-clause-told g c =
    turn_given_up _ _ _ _ _ _ _ _ _ _ _ c.changed_in-batch.result.0 _ c.given_up.result c.in-Ok.ensures c.changed_in-batch.ensures.batch c.nothing.ensures c.in-Err-settle.ensures.settles c.given_up.ensures
