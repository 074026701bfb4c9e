use Rattle.std.proofs.Common.{◌∙◌, Option, Result, Ok, ap, subst, sym}
use Rattle.std.specs.Option.{option_map}
use Rattle.xds_resource.specs.declared.refusal.Refusal.{Refusal}
use Rattle.xds_resource.specs.Refusals.{Gives}
use Rattle.xds_script.specs.Commands.{said_of}
use Rattle.xds_script.specs.Scripts.{line_says}
use Rattle.xds_changes.specs.Changes.{Written, change_of}
use Rattle.xds_changes.proofs.Changing.{line_refused, line_skipped, line_said}
use Rattle.xds_changes.proofs.change.read_within.Goals as goal

pub returns-in-Err-clause-change : goal.returns-in-Err-clause-change
returns-in-Err-clause-change c = line_refused (line_says c.args.line.now) c.in-Err.refusal c.in-Err.ensures

pub returns-in-Ok-None-clause-change : goal.returns-in-Ok-None-clause-change
returns-in-Ok-None-clause-change c = line_skipped (line_says c.args.line.now) (c.in-Ok-None.ensures ∙ ap (λ o. Ok (option_map said_of o)) c.in-Ok-None.field-0-is)

pub returns-in-Ok-Some-clause-change : goal.returns-in-Ok-Some-clause-change
returns-in-Ok-Some-clause-change c =
    let read = line_said (line_says c.args.line.now) (said_of c.in-Ok-Some.command) (c.in-Ok-Some.ensures ∙ ap (λ o. Ok (option_map said_of o)) c.in-Ok-Some.field-0-is) in
    subst (λ (r : Result (Option Written) Refusal). Gives (option_map change_of) c.change_by.result r) (sym read) c.change_by.ensures.change
