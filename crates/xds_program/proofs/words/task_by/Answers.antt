use Rattle.std.proofs.Common.{List, map, string_bytes, subst}
use Rattle.clap.specs.Words.{Text, subcommand_rows_of}
use Rattle.clap.proofs.TakesLemmas.{passed_up}
use Rattle.xds_program.specs.WrongValues.{FindsOrBlames}
use Rattle.xds_program.proofs.Asking.{no_task_tells, parse_tells, task_is}
use Rattle.xds_program.proofs.words.task_by.Goals as goal

pub returns-in_err-matches-clause-told : goal.returns-in_err-matches-clause-told
returns-in_err-matches-clause-told c =
    passed_up c.from_residual.result c.in_err-matches.field-0.0 _ c.from_residual.ensures.1
    (parse_tells _ (map string_bytes c.args.words.now) c.requires.0 c.in_err-matches.field-0.0 c.in_err-matches.ensures.kinds)

pub returns-in-Ok-clause-asked : goal.returns-in-Ok-clause-asked
returns-in-Ok-clause-asked c =
    let words : List Text = map string_bytes c.args.words.now in
    let asks = subst (FindsOrBlames (subcommand_rows_of c.in_ok-matches.matches)) c.in-Ok.is c.in_ok-task.ensures in
    task_is _ words c.requires.0 c.in_ok-matches.matches c.in-Ok.task c.in_ok-matches.ensures.ok.2 c.in_ok-matches.ensures.kinds asks

pub returns-in-Err-clause-told : goal.returns-in-Err-clause-told
returns-in-Err-clause-told c =
    let words : List Text = map string_bytes c.args.words.now in
    let blames = subst (FindsOrBlames (subcommand_rows_of c.in_ok-matches.matches)) c.in-Err.is c.in_ok-task.ensures in
    no_task_tells _ words c.requires.0 c.in_ok-matches.matches _ c.in_ok-matches.ensures.ok.2 c.in_ok-matches.ensures.kinds blames.0 c.bad_value.ensures
