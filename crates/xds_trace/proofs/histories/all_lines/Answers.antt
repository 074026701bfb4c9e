use Rattle.std.proofs.Common.{◌++◌, ap, ◌∙◌}
use Rattle.std.proofs.lemmas.List.Elements.{All-append}
use Rattle.xds_trace.specs.Making.{trace_of}
use Rattle.xds_trace.specs.Telling.{IsSoundRecord}
use Rattle.xds_trace.specs.Joined.{pieces_records}
use Rattle.xds_trace.proofs.Joining.{added}
use Rattle.xds_trace.proofs.histories.all_lines.Goals as goal

pub returns-in-Ok-push_legal : goal.returns-in-Ok-push_legal
returns-in-Ok-push_legal g c =
    let ps = pieces_records c.args.segments.now in
    let rs = c.args.last.now in (
      added ps rs c.new-lines.result.items c.push_segments.new.lines.items c.push_legal.new.lines.items c.in-Ok.ensures.0 c.in-Ok-push_legal.ensures.0
          ∙ ap (λ l. l ++ trace_of (ps ++ rs)) c.new-lines.ensures.items,
      All-append IsSoundRecord ps rs c.in-Ok.ensures.1 c.in-Ok-push_legal.ensures.1,
    )
