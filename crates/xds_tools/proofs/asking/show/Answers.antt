use Rattle.xds_frames.specs.Devices.{seen}
use Rattle.xds_tools.proofs.Showing.{shown_status}
use Rattle.xds_tools.proofs.asking.show.Goals as goal

pub returns-clause-status : goal.returns-clause-status
returns-clause-status g c =
    shown_status c.shown_of-shown.result c.args.answer.status c.args.answer.body.now c.show_by.result (seen g.O.Write.contents c.args.output.now c.show_by.new.output)
    (seen g.E.Write.contents c.args.errors.now c.show_by.new.errors) c.show_by.ensures
