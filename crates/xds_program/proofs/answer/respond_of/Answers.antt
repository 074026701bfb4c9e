use Rattle.xds_resource.specs.declared.types.TypeName.TheVariants.{Cluster, Endpoint, Listener, Route, Secret}
use Rattle.xds_program.proofs.Responding.{given_at}
use Rattle.xds_program.proofs.answer.respond_of.Goals as goal

pub returns-in-Cluster-clause-given : goal.returns-in-Cluster-clause-given
returns-in-Cluster-clause-given c = given_at Cluster c.args.kind c.args.catalogues.now _ c.args.replica c.args.request.now c.respond.result c.catalogues.view_is c.in-Cluster.is c.respond.ensures.given

pub returns-in-Endpoint-clause-given : goal.returns-in-Endpoint-clause-given
returns-in-Endpoint-clause-given c = given_at Endpoint c.args.kind c.args.catalogues.now _ c.args.replica c.args.request.now c.respond-in-Endpoint.result c.catalogues.view_is c.in-Endpoint.is c.respond-in-Endpoint.ensures.given

pub returns-in-Listener-clause-given : goal.returns-in-Listener-clause-given
returns-in-Listener-clause-given c = given_at Listener c.args.kind c.args.catalogues.now _ c.args.replica c.args.request.now c.respond-in-Listener.result c.catalogues.view_is c.in-Listener.is c.respond-in-Listener.ensures.given

pub returns-in-Route-clause-given : goal.returns-in-Route-clause-given
returns-in-Route-clause-given c = given_at Route c.args.kind c.args.catalogues.now _ c.args.replica c.args.request.now c.respond-in-Route.result c.catalogues.view_is c.in-Route.is c.respond-in-Route.ensures.given

pub returns-in-Secret-clause-given : goal.returns-in-Secret-clause-given
returns-in-Secret-clause-given c = given_at Secret c.args.kind c.args.catalogues.now _ c.args.replica c.args.request.now c.respond-in-Secret.result c.catalogues.view_is c.in-Secret.is c.respond-in-Secret.ensures.given
