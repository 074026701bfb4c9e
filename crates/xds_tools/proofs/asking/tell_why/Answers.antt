use Rattle.std.proofs.Common.{inl, ap, subst, ◌∙◌}
use Rattle.xds_frames.specs.Devices.{seen}
use Rattle.xds_notes.specs.Endings.{TellsLine}
use Rattle.xds_stats.specs.Logging.{excerpt}
use Rattle.xds_telling.specs.Messages.{refused_by_line, why_refused}
use Rattle.xds_tools.proofs.asking.tell_why.Goals as goal

-- what is told is the excerpt of the body
pub returns-in-Ok : goal.returns-in-Ok
returns-in-Ok g c =
    let status = c.args.answer.status in
    let said = c.as_str.ensures.value ∙ c.in-Ok.ensures.ok ∙ ap excerpt c.trim.ensures.trim in
    inl (
      subst (λ w. TellsLine (refused_by_line status (why_refused status w)) (seen g.E.Write.contents c.args.errors.now c.tell_refused_by.new.errors)) said c.tell_refused_by.ensures.told,
      c.tell_refused_by.ensures.status,
    )
