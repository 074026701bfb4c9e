use Rattle.std.proofs.Common.{ap, ◌∙◌}
use Rattle.std.specs.FinSet as set
use Rattle.xds_interest.specs.Interests.{names_among}
use Rattle.xds_interest.specs.Delta.{mention_of}
use Rattle.xds_interest.proofs.Made.{selection}
use Rattle.xds_interest.proofs.NameSets.{union-empty}
use Rattle.xds_interest.proofs.delta.DeltaNames.wanted_by.Goals as goal

pub returns-clause-ok : goal.returns-clause-ok
returns-clause-ok g c =
    let m = mention_of c.args.subscribe.now c.args.unsubscribe.now in
    let names = c.in_ok-insert_names.ensures.ok ∙ (λ i. set.union (c.new-names.ensures i) (set.from_list (names_among (c.TYPE.ensures i) m.subscribe)))
    ∙ union-empty (set.from_list (names_among g.T.ResourceType.TYPE m.subscribe)) in
    c.of_parts.ensures ∙ (λ i. selection (c.has_star_after-star.ensures i) (names i) ((c.in_ok-cluster.ensures.ok ∙ ap (λ a. a.interest.cluster) c.self.view_is) i))
