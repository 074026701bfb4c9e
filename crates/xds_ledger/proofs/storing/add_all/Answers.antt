use Rattle.xds_ledger.proofs.Stored.{added_next}
use Rattle.xds_ledger.proofs.storing.add_all.Goals as goal

pub loop-name-preserved : goal.loop-name-preserved
loop-name-preserved c = added_next c.loop-name.differences c.args.differences.now c.put.new.self c.args.names.now c.loop-name.name-index _ c.loop-name-test.true c.in_default.ensures.ok c.loop-name.invariant
