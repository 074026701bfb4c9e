use Rattle.std.proofs.Common.{◌≡◌, ap, ◌∙◌}
use Rattle.std.specs.FinSet as set
use Rattle.xds_interest.specs.Interests.{names_among}
use Rattle.xds_interest.specs.Delta.{mention_of}
use Rattle.xds_interest.proofs.Made.{names_after_made}
use Rattle.xds_interest.proofs.delta.DeltaNames.names_after.Goals as goal

pub returns-clause-ok : goal.returns-clause-ok
returns-clause-ok g c =
    let m = mention_of c.args.subscribe.now c.args.unsubscribe.now in
    let copied : c.in_ok-names.names ≡ c.args.self.now.interest.names = c.in_ok-names.ensures.ok ∙ c.explicit.ensures ∙ ap (λ a. a.interest.names) c.self.view_is in
    c.in_ok-insert_names.ensures.ok
    ∙ (λ i. set.union ((c.remove_all.ensures ∙ ap (λ s. set.difference s (set.from_list m.unsubscribe)) copied) i) (set.from_list (names_among (c.TYPE.ensures i) m.subscribe)))
    ∙ names_after_made g.T.ResourceType.TYPE m c.args.self.now.interest.names
