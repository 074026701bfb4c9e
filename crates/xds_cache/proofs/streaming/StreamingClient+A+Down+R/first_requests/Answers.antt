use Rattle.std.proofs.Common.{true, false, get_or, refl, sym, ◌∙◌}
use Rattle.xds_resource.specs.declared.types.TypeName.TheVariants.{Cluster}
use Rattle.xds_resource.specs.Types.{types}
use Rattle.xds_cache.specs.Sends.{first_of, first_requests, is_greeted}
use Rattle.xds_cache.proofs.Opening.{asked_more, passed_over, greeted_more}
use Rattle.xds_cache.proofs.streaming.StreamingClient+A+Down+R.first_requests.Goals as goal

pub loop-kind-preserved : goal.loop-kind-preserved
loop-kind-preserved g c =
    let client = c.args.self.now in
    let at = c.loop-kind.kind-index in
    let within = c.loop-kind-test.true in
    let wanted = sym c.wants.ensures ∙ c.if-not-wants.false in
    record {
      requests = asked_more (first_of g.R.Asks.opening client) client types at c.loop-kind.greeted (get_or types at Cluster) Cluster c.loop-kind.requests.items c.push.new.self.items (first_requests (first_of g.R.Asks.opening client) client false types)
          c.in_ok-request.request within refl wanted c.in_ok-request.ensures.ok c.in_ok-push.ensures.items c.loop-kind.invariant.requests;
      greeted = greeted_more client types at c.loop-kind.greeted (get_or types at Cluster) Cluster (is_greeted client false types) true within refl wanted c.loop-kind.invariant.greeted;
    }

pub loop-kind-preserved-then-not-wants : goal.loop-kind-preserved-then-not-wants
loop-kind-preserved-then-not-wants g c =
    let client = c.args.self.now in
    let at = c.loop-kind.kind-index in
    let within = c.loop-kind-test.true in
    let unwanted = sym c.wants.ensures ∙ c.if-not-wants.true in
    record {
      requests = passed_over (first_of g.R.Asks.opening client) client types at c.loop-kind.greeted (get_or types at Cluster) Cluster c.loop-kind.requests.items (first_requests (first_of g.R.Asks.opening client) client false types)
          within refl unwanted c.loop-kind.invariant.requests;
      greeted = greeted_more client types at c.loop-kind.greeted (get_or types at Cluster) Cluster (is_greeted client false types) false within refl unwanted c.loop-kind.invariant.greeted;
    }
