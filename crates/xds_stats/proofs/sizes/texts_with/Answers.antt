use Rattle.std.proofs.Common.{List, ℕ, ap, sym, ◌∙◌}
use Rattle.xds_message.specs.Drafts.{with_text}
use Rattle.xds_stats.specs.Sizes.{others}
use Rattle.xds_stats.proofs.Sizing.{live_behind}
use Rattle.xds_stats.proofs.sizes.texts_with.Goals as goal

pub returns-clause-ok : goal.returns-clause-ok
returns-clause-ok g c =
    c.in_ok-push_body.ensures.ok
    ∙ ap (λ (texts : List (List ℕ)). with_text texts c.args.put.now.body) c.in_ok-bodies.ensures.ok
    ∙ sym (live_behind (others c.args.put.now c.args.writes.now) c.args.put.now)
