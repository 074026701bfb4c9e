use Rattle.xds_trace.proofs.AnyBase.{short_from_base}
use Rattle.xds_trace.proofs.histories.push_legal.Goals as goal

pub returns-in-Err : goal.returns-in-Err
returns-in-Err c = short_from_base c.args.base.now c.args.records.now c.in-Err.refusal c.what_is_held_could_be_read.ensures c.requires c.in-Err.ensures
