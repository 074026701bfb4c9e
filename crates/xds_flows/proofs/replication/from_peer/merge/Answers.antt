use Rattle.xds_flows.proofs.Mergings.{merge_not_told, not_read}
use Rattle.xds_flows.proofs.replication.from_peer.merge.Goals as goal

pub returns-in-Err : goal.returns-in-Err
returns-in-Err g c = not_read _ _ c.args.parcel.now

pub returns : goal.returns
returns g c =
    merge_not_told _ _ _ _ c.args.parcel.now _ c.in-Ok.ensures.ok _ c.in-Err-called.ensures.unrecorded c.in-Err-called.ensures.err c.in-Err-called.ensures.tried
