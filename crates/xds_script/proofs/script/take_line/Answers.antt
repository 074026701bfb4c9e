use Rattle.std.proofs.Common.{Option, List, ◌++◌, append-nil, map, ap, sym, ◌∙◌}
use Rattle.std.specs.Option.{option_map, option_to_list}
use Rattle.std.proofs.lemmas.List.{map-append}
use Rattle.std.proofs.lemmas.Result.{err_from_is_err_and}
use Rattle.xds_script.specs.declared.command.Command.{Command}
use Rattle.xds_script.specs.Commands.{Said, said_of}
use Rattle.xds_script.proofs.Scripting.{refused_line, read_line_says}
use Rattle.xds_script.proofs.script.take_line.Goals as goal

pub returns-in_err-command-clause-refused : goal.returns-in_err-command-clause-refused
returns-in_err-command-clause-refused c =
    let p = err_from_is_err_and c.from_residual.result c.from_residual.ensures.1 in
    rw (p.1, p.2) (refused_line c.args.line.now _ c.in_err-command.ensures)

pub returns-in_ok-push-in-Some-clause-good : goal.returns-in_ok-push-in-Some-clause-good
returns-in_ok-push-in-Some-clause-good c = (read_line_says c.args.line.now _ c.in_ok-command.ensures).0

pub returns-in_ok-push-in-Some-clause-said : goal.returns-in_ok-push-in-Some-clause-said
returns-in_ok-push-in-Some-clause-said c =
    let before = map said_of c.args.commands.now.items in
    ap (map said_of) c.in_ok-push-in-Some.ensures.items ∙ map-append said_of c.args.commands.now.items _
    ∙ ap (λ (l : List Said). before ++ l)
    (sym (ap (λ (o : Option Command). option_to_list (option_map said_of o)) c.in-Some.is) ∙ (read_line_says c.args.line.now _ c.in_ok-command.ensures).1)

pub returns-in-None-clause-good : goal.returns-in-None-clause-good
returns-in-None-clause-good c = (read_line_says c.args.line.now _ c.in_ok-command.ensures).0

pub returns-in-None-clause-said : goal.returns-in-None-clause-said
returns-in-None-clause-said c =
    let before = map said_of c.args.commands.now.items in
    sym (append-nil before)
    ∙ ap (λ (l : List Said). before ++ l)
    (sym (ap (λ (o : Option Command). option_to_list (option_map said_of o)) c.in-None.is) ∙ (read_line_says c.args.line.now _ c.in_ok-command.ensures).1)
