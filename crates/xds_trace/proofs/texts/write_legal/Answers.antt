use Rattle.xds_trace.proofs.TextLemmas.{legal_unwritten}
use Rattle.xds_trace.proofs.texts.write_legal.Goals as goal

pub returns-in-Err : goal.returns-in-Err
returns-in-Err g c =
    legal_unwritten _ c.args.base.now c.args.records.now c.in-Err.refusal c.what_is_held_could_be_read.ensures c.requires c.in-Err.ensures
