use Rattle.std.proofs.Common.{◌≡◌, ◌∙◌}
use Rattle.xds_interest.specs.Asked.{wanted_by, widened, narrowed}
use Rattle.xds_interest.specs.Delta.{mention_of}
use Rattle.xds_interest.proofs.Adding.{narrowing_is_the_rest}
use Rattle.xds_check.proofs.talk.take_mention.Goals as goal

pub returns-clause-ok : goal.returns-clause-ok
returns-clause-ok g c =
    let t = g.T.ResourceType.TYPE in
    let m = mention_of c.args.subscribe.now c.args.unsubscribe.now in
    let here : c.in_ok-wanted.wanted ≡ wanted_by t c.args.names.now m = c.in_ok-wanted.ensures.ok in
    c.narrow.ensures ∙ (λ i. narrowed (c.in_ok-widen.ensures.ok i) c.in_ok-wanted.wanted m.unsubscribe) ∙ (λ i. narrowed (widened c.args.names.now (here i).names) (here i) m.unsubscribe)
    ∙ narrowing_is_the_rest t c.args.names.now m
