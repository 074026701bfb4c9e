use Rattle.std.proofs.Common.{◌+◌, sym, ap, subst, ◌∙◌, arith, ne_eqb}
use Rattle.xds_resource.specs.Stamps.{max_counter}
use Rattle.xds_core.specs.Lists.{AllFit, streams_of}
use Rattle.xds_events.specs.Steps.{Core}
use Rattle.xds_core.proofs.Fitting.{opened_fits, opened_step}
use Rattle.xds_core.proofs.replica.Core.open.Goals as goal

pub invariant_of-self : goal.invariant_of-self
invariant_of-self c = record {
  numbered = c.self.invariant.numbered;
  counted = c.self.invariant.counted;
  fitting = subst (AllFit c.self.inside.held) (sym c.in_err-insert.ensures.err) c.self.invariant.fitting;
}

pub invariant_of-self-2 : goal.invariant_of-self-2
invariant_of-self-2 c = record {
  numbered = c.self.invariant.numbered;
  counted = omega (arith, c.self.invariant.counted);
  fitting = opened_fits c.self.inside.held c.self.inside.streams c.insert.new.self (c.self.inside.opened + 1) c.opening.result c.in_ok-insert.ensures.ok c.opening.ensures c.self.invariant.fitting;
}

pub returns-clause-steps : goal.returns-clause-steps
returns-clause-steps c =
    let core : Core = record { replica = c.self.inside.replica; store = c.self.inside.held; opened = c.self.inside.opened + 1; streams = streams_of c.insert.new.self } in
    opened_step c.args.self.now core c.self.inside.streams c.insert.new.self (c.self.inside.opened + 1) c.opening.result
    (ne_eqb c.args.self.now.opened max_counter (λ spent. c.if-self-eq-MAX_COUNTER.false (ap (λ (k : Core). k.opened) c.self.view_is ∙ spent))) (ap (λ (k : Core). k.streams) c.self.view_is) (ap (λ (k : Core). k.opened + 1) c.self.view_is)
    c.in_ok-insert.ensures.ok c.opening.ensures (λ i. record { replica = (c.self.view_is i).replica; store = (c.self.view_is i).store; opened = c.self.inside.opened + 1; streams = streams_of c.insert.new.self })
