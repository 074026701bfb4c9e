use Rattle.std.proofs.Common.{◌≡◌, ap, ◌∙◌, false}
use Rattle.xds_cache.specs.Shelves.{wants_of}
use Rattle.xds_cache.specs.Clients.{fresh}
use Rattle.xds_cache.specs.Receives.{sotw_changed}
use Rattle.xds_client.specs.Subscribing.{names_of, node_id}
use Rattle.xds_client.proofs.Turns.{changed_to}
use Rattle.xds_client.proofs.opening.wanting_sotw.Goals as goal

pub returns-clause-client : goal.returns-clause-client
returns-clause-client c =
    let new : c.new-client.result ≡ fresh node_id c.args.wish.now.cluster.now = c.new-client.ensures ∙ (λ i. fresh (c.in_ok-node_id.ensures.ok i) (c.in_ok-cluster.ensures.ok i)) in
    changed_to _ _ _ c.in_ok-change.ensures.ok ∙ ap (λ z. (sotw_changed false c.args.wish.now.kind (wants_of (names_of c.args.wish.now)) z).0) new
