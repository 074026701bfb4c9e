use Rattle.xds_resource.specs.declared.types.TypeName.TheVariants.{Cluster, Endpoint, Listener, Route, Secret}
use Rattle.xds_core.proofs.Polling.{polled_at}
use Rattle.xds_core.proofs.StreamsFitting.{fits_at}
use Rattle.xds_core.proofs.talk.Talk.poll_type.Goals as goal

pub poll_one-requires : goal.poll_one-requires
poll_one-requires g c = fits_at g.V.Variant.NAME Cluster c.held.view_is c.self.view_is c.requires

pub poll_one-requires-2 : goal.poll_one-requires-2
poll_one-requires-2 g c = fits_at g.V.Variant.NAME Endpoint c.held.view_is c.self.view_is c.requires

pub poll_one-requires-3 : goal.poll_one-requires-3
poll_one-requires-3 g c = fits_at g.V.Variant.NAME Listener c.held.view_is c.self.view_is c.requires

pub poll_one-requires-4 : goal.poll_one-requires-4
poll_one-requires-4 g c = fits_at g.V.Variant.NAME Route c.held.view_is c.self.view_is c.requires

pub poll_one-requires-5 : goal.poll_one-requires-5
poll_one-requires-5 g c = fits_at g.V.Variant.NAME Secret c.held.view_is c.self.view_is c.requires

pub returns-in-Cluster-for_type-clause-polls : goal.returns-in-Cluster-for_type-clause-polls
returns-in-Cluster-for_type-clause-polls g c = polled_at c.args.replica g.V.Variant.NAME Cluster c.poll_one.result c.poll_one.new.session c.poll_one.new.nonces c.held.view_is c.self.view_is c.in-Cluster-for_type.is c.poll_one.ensures.ok c.poll_one.ensures.bound c.poll_one.ensures.err c.poll_one.ensures.refused c.poll_one.ensures.fits c.requires

pub returns-in-Endpoint-for_type-clause-polls : goal.returns-in-Endpoint-for_type-clause-polls
returns-in-Endpoint-for_type-clause-polls g c = polled_at c.args.replica g.V.Variant.NAME Endpoint c.poll_one-2.result c.poll_one-2.new.session c.poll_one-2.new.nonces c.held.view_is c.self.view_is c.in-Endpoint-for_type.is c.poll_one-2.ensures.ok c.poll_one-2.ensures.bound c.poll_one-2.ensures.err c.poll_one-2.ensures.refused c.poll_one-2.ensures.fits c.requires

pub returns-in-Listener-for_type-clause-polls : goal.returns-in-Listener-for_type-clause-polls
returns-in-Listener-for_type-clause-polls g c = polled_at c.args.replica g.V.Variant.NAME Listener c.poll_one-3.result c.poll_one-3.new.session c.poll_one-3.new.nonces c.held.view_is c.self.view_is c.in-Listener-for_type.is c.poll_one-3.ensures.ok c.poll_one-3.ensures.bound c.poll_one-3.ensures.err c.poll_one-3.ensures.refused c.poll_one-3.ensures.fits c.requires

pub returns-in-Route-for_type-clause-polls : goal.returns-in-Route-for_type-clause-polls
returns-in-Route-for_type-clause-polls g c = polled_at c.args.replica g.V.Variant.NAME Route c.poll_one-4.result c.poll_one-4.new.session c.poll_one-4.new.nonces c.held.view_is c.self.view_is c.in-Route-for_type.is c.poll_one-4.ensures.ok c.poll_one-4.ensures.bound c.poll_one-4.ensures.err c.poll_one-4.ensures.refused c.poll_one-4.ensures.fits c.requires

pub returns-in-Secret-for_type-clause-polls : goal.returns-in-Secret-for_type-clause-polls
returns-in-Secret-for_type-clause-polls g c = polled_at c.args.replica g.V.Variant.NAME Secret c.poll_one-5.result c.poll_one-5.new.session c.poll_one-5.new.nonces c.held.view_is c.self.view_is c.in-Secret-for_type.is c.poll_one-5.ensures.ok c.poll_one-5.ensures.bound c.poll_one-5.ensures.err c.poll_one-5.ensures.refused c.poll_one-5.ensures.fits c.requires
