use Rattle.xds_program.proofs.Flushing.{flushed_part}
use Rattle.xds_program.proofs.output.write_flushed.Goals as goal

pub returns-in-Err-write_whole-clause-failed : goal.returns-in-Err-write_whole-clause-failed
returns-in-Err-write_whole-clause-failed g c =
    (c.in-Err-write_whole.ensures.failed.0, flushed_part _ _ _ _ _ _ c.args.block.items _ c.requires c.in_default.ensures.written c.in_default.ensures.none_failed c.in-Err-write_whole.ensures.failed.1)
