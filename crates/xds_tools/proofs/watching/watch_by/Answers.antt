use Rattle.std.proofs.Common.{subst}
use Rattle.xds_frames.specs.Devices.{seen}
use Rattle.xds_client.specs.Running.{RunsBy}
use Rattle.xds_program.specs.Tasks.{Watch}
use Rattle.xds_tools.proofs.watching.watch_by.Goals as goal

pub returns : goal.returns
returns g c =
    let output = seen g.O.Write.contents c.args.output.now c.run_at-ended.new.output in
    let runs = subst (λ (t : Watch). RunsBy (g.D.Dials.dials c.args.dials.now c.run_at-ended.new.dials t.addr) g.D.Reader.Read.remaining g.D.Writer.Write.contents c.wish_of-wish.result c.run_at-ended.result output) c.task.view_is c.run_at-ended.ensures in
    (c.wish_of-wish.result, c.run_at-ended.result, c.wish_of-wish.ensures, runs, c.tell_end.ensures)
