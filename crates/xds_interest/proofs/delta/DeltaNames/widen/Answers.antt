use Rattle.std.proofs.Common.{ap, ◌∙◌}
use Rattle.std.specs.FinSet as set
use Rattle.xds_interest.proofs.Adding.{difference-rest, widened_by}
use Rattle.xds_interest.proofs.delta.DeltaNames.widen.Goals as goal

pub add-requires : goal.add-requires
add-requires g c = ap (set.difference c.self.inside.interest.names) c.in_ok-added.ensures.ok ∙ difference-rest c.self.inside.interest.names c.args.wanted.now.names

pub returns-clause-ok : goal.returns-clause-ok
returns-clause-ok g c =
    widened_by c.args.self.now c.self.inside.begun c.self.inside.interest c.add.new.self c.args.wanted.now.names c.in_ok-added.added c.self.view_is c.in_ok-added.ensures.ok
    c.in_ok-add.ensures.ok

pub returns-clause-added : goal.returns-clause-added
returns-clause-added g c = c.in_ok-added.ensures.ok ∙ ap (λ a. set.difference c.args.wanted.now.names a.interest.names) c.self.view_is
