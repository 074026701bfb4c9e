use Rattle.std.proofs.Common.{subst, sym}
use Rattle.xds_resource.specs.declared.types.TypeName.TheVariants.{Cluster, Endpoint, Listener, Route, Secret}
use Rattle.xds_changes.specs.Given.{AllBelow}
use Rattle.xds_changes.proofs.given.number_above.Goals as goal

pub returns-clause-least : goal.returns-clause-least
returns-clause-least c = λ other from all.
    let inside = subst (AllBelow other) (sym c.batch.view_is) all in
    let clusters = c.above_all-number.ensures.least other from (inside Cluster) in
    let endpoints = c.above_all-number-2.ensures.least other clusters (inside Endpoint) in
    let listeners = c.above_all-number-3.ensures.least other endpoints (inside Listener) in
    let routes = c.above_all-number-4.ensures.least other listeners (inside Route) in
    c.above_all.ensures.least other routes (inside Secret)
