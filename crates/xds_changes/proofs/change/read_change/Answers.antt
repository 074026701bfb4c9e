use Rattle.std.proofs.Common.{Option, Result, subst, sym}
use Rattle.std.specs.Option.{option_map}
use Rattle.xds_resource.specs.declared.refusal.Refusal.{Refusal}
use Rattle.xds_resource.specs.Refusals.{Gives}
use Rattle.xds_changes.specs.Changes.{Written, change_of}
use Rattle.xds_changes.proofs.Changing.{long_line, short_line}
use Rattle.xds_changes.proofs.change.read_change.Goals as goal

pub returns-in-Ok-clause-change : goal.returns-in-Ok-clause-change
returns-in-Ok-clause-change c =
    subst (λ (r : Result (Option Written) Refusal). Gives (option_map change_of) c.read_within.result r) (sym (short_line c.args.line.now c.in-Ok.ensures)) c.read_within.ensures.change

pub returns-in-Err-clause-change : goal.returns-in-Err-clause-change
returns-in-Err-clause-change c = λ other. long_line c.args.line.now c.in-Err.refusal c.in-Err.ensures.1 c.in-Err.ensures.0
