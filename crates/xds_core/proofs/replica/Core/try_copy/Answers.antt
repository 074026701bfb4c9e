use Rattle.std.proofs.Common.{◌∙◌}
use Rattle.xds_core.specs.Lists.{streams_of}
use Rattle.xds_core.proofs.Fitting.{copied_fits, copied_as}
use Rattle.xds_core.proofs.replica.Core.try_copy.Goals as goal

pub invariant_of-result : goal.invariant_of-result
invariant_of-result c = record {
  numbered = c.self.invariant.numbered;
  counted = c.self.invariant.counted;
  fitting =
      copied_fits c.self.inside.held c.in_ok-held.held c.self.inside.streams c.in_ok-held.streams (copied_as c.try_copy.result c.in_ok-held.held c.self.inside.held c.in_ok-held.ensures.held c.try_copy.ensures.ok)
      (copied_as c.copy_streams.result c.in_ok-held.streams c.self.inside.streams c.in_ok-held.ensures.streams c.copy_streams.ensures.ok) c.self.invariant.fitting;
}

pub returns-clause-ok : goal.returns-clause-ok
returns-clause-ok c =
    let held = copied_as c.try_copy.result c.in_ok-held.held c.self.inside.held c.in_ok-held.ensures.held c.try_copy.ensures.ok in
    let streams = copied_as c.copy_streams.result c.in_ok-held.streams c.self.inside.streams c.in_ok-held.ensures.streams c.copy_streams.ensures.ok in
    (λ i. record { replica = c.self.inside.replica; store = held i; opened = c.self.inside.opened; streams = streams_of (streams i) }) ∙ c.self.view_is
