use Rattle.std.proofs.Common.{◌∙◌}
use Rattle.std.specs.FinSet as set
use Rattle.xds_interest.proofs.NameSets.{union-empty}
use Rattle.xds_interest.proofs.interest.Interest.lacked.Goals as goal

pub returns-clause-ok : goal.returns-clause-ok
returns-clause-ok g c =
    let rest = set.difference c.args.wanted.now.names c.args.self.now.names in
    c.in_ok-insert_difference.ensures.ok ∙ (λ i. set.union (c.new-lacked.ensures i) (set.difference (c.wanted.view_is i).names (c.self.view_is i).names)) ∙ union-empty rest
