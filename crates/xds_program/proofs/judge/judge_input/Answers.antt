use Rattle.xds_program.proofs.JudgedInput.{whole_judged}
use Rattle.xds_program.proofs.judge.judge_input.Goals as goal

pub returns-in-Err-told-clause-unjudged : goal.returns-in-Err-told-clause-unjudged
returns-in-Err-told-clause-unjudged g c = whole_judged (g.I.Read.remaining c.args.input.now.inner) c.read_all-read.new.checker _ c.in-Ok.ensures.read c.in-Err-told.ensures.unjudged

pub returns-in-Err-clause-unjudged : goal.returns-in-Err-clause-unjudged
returns-in-Err-clause-unjudged g c = c.read_behind.ensures (g.I.Read.remaining c.args.input.now.inner) c.in-Err.ensures.refused
