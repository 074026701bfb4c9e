use Rattle.std.proofs.Common.{inl, subst, ◌∙◌}
use Rattle.xds_frames.specs.Devices.{Tells, seen}
use Rattle.xds_program.proofs.Telling.{tells}
use Rattle.xds_tools.proofs.telling.tell_late.Goals as goal

pub returns-in-Ok-clause-told : goal.returns-in-Ok-clause-told
returns-in-Ok-clause-told g c =
    inl (subst (Tells (seen g.E.Write.contents c.args.errors.now c.write_whole.new.writer)) (c.as_bytes.ensures.value ∙ c.in-Ok.ensures)
    (tells _ _ c.write_whole.result c.write_whole.ensures.written c.write_whole.ensures.failed))
