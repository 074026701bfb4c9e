use Rattle.xds_frames.proofs.Gatherings.{part_behind, part_longer, passes_more}
use Rattle.xds_message.proofs.pieces.put_lists.Goals as goal

pub returns-in-Err-clause-failed : goal.returns-in-Err-clause-failed
returns-in-Err-clause-failed g c = (c.in-Err.ensures.failed.0, part_longer _ c.args.block.now.items _ _ c.in-Err.ensures.failed.1)

pub returns-in-Err-put_items-clause-failed : goal.returns-in-Err-put_items-clause-failed
returns-in-Err-put_items-clause-failed g c = (c.in-Err-put_items.ensures.failed.0, part_behind _ _ _ _ _ _ _ _ _ _ c.in_default.ensures.put c.in-Err-put_items.ensures.failed.1)

pub returns-clause-put : goal.returns-clause-put
returns-clause-put g c = passes_more _ _ _ _ _ _ _ _ _ _ _ c.in_default.ensures.put c.in_default-put_items.ensures.put
