use Rattle.std.proofs.Common.{sym, ap, subst, ◌∙◌}
use Rattle.xds_resource.specs.Refusals.{Gives}
use Rattle.xds_events.specs.Events.{Close}
use Rattle.xds_core.specs.Lists.{streams_of}
use Rattle.xds_events.specs.Seen.{reply_of}
use Rattle.xds_events.specs.Steps.{Core, step}
use Rattle.xds_core.proofs.Fitting.{closed_fits, closed_step, no_stream_step}
use Rattle.xds_core.proofs.StreamSteps.{with_streams}
use Rattle.xds_core.proofs.replica.Core.close.Goals as goal
use Rattle.xds_core.proofs.replica.Core.close.Goals.{then-remove, else-remove}

pub invariant_of-self : goal.invariant_of-self
invariant_of-self c = record {
  numbered = c.self.invariant.numbered;
  counted = c.self.invariant.counted;
  fitting = closed_fits c.self.inside.held c.self.inside.streams c.remove.new.self c.args.number c.remove.ensures.removed c.self.invariant.fitting;
}

pub returns-clause-steps : goal.returns-clause-steps
returns-clause-steps c =
    let core : Core = record { replica = c.self.inside.replica; store = c.self.inside.held; opened = c.self.inside.opened; streams = streams_of c.remove.new.self } in
    elim c.if-remove.branch [
      | then-remove w ↦
          subst (λ r. Gives (λ x. (reply_of x, core)) r (step c.args.self.now (Close c.args.number))) (sym w.result-is)
          (closed_step c.args.self.now core c.self.inside.streams c.remove.new.self c.args.number (ap (λ (k : Core). k.streams) c.self.view_is) c.remove.ensures.removed (sym c.remove.ensures.old ∙ w.if-remove.true)
          (λ i. with_streams (c.self.view_is i) (streams_of c.remove.new.self)))
      | else-remove w ↦
          subst (λ r. Gives (λ x. (reply_of x, core)) r (step c.args.self.now (Close c.args.number))) (sym w.result-is)
          (λ other. no_stream_step c.args.self.now c.self.inside.streams c.args.number (ap (λ (k : Core). k.streams) c.self.view_is) (sym c.remove.ensures.old ∙ w.if-remove.false))
    ]
