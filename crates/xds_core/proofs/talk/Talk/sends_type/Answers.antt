use Rattle.xds_resource.specs.declared.types.TypeName.TheVariants.{Cluster, Endpoint, Listener, Route, Secret}
use Rattle.xds_core.proofs.Polling.{sends_at}
use Rattle.xds_core.proofs.StreamsFitting.{fits_at}
use Rattle.xds_core.proofs.talk.Talk.sends_type.Goals as goal

pub sends-requires : goal.sends-requires
sends-requires g c = fits_at g.V.Variant.NAME Cluster c.held.view_is c.self.view_is c.requires

pub sends-requires-2 : goal.sends-requires-2
sends-requires-2 g c = fits_at g.V.Variant.NAME Endpoint c.held.view_is c.self.view_is c.requires

pub sends-requires-3 : goal.sends-requires-3
sends-requires-3 g c = fits_at g.V.Variant.NAME Listener c.held.view_is c.self.view_is c.requires

pub sends-requires-4 : goal.sends-requires-4
sends-requires-4 g c = fits_at g.V.Variant.NAME Route c.held.view_is c.self.view_is c.requires

pub sends-requires-5 : goal.sends-requires-5
sends-requires-5 g c = fits_at g.V.Variant.NAME Secret c.held.view_is c.self.view_is c.requires

pub returns-in-Cluster-for_type : goal.returns-in-Cluster-for_type
returns-in-Cluster-for_type g c = sends_at g.V.Variant.NAME Cluster c.sends.result c.held.view_is c.self.view_is c.in-Cluster-for_type.is c.sends.ensures

pub returns-in-Endpoint-for_type : goal.returns-in-Endpoint-for_type
returns-in-Endpoint-for_type g c = sends_at g.V.Variant.NAME Endpoint c.sends-2.result c.held.view_is c.self.view_is c.in-Endpoint-for_type.is c.sends-2.ensures

pub returns-in-Listener-for_type : goal.returns-in-Listener-for_type
returns-in-Listener-for_type g c = sends_at g.V.Variant.NAME Listener c.sends-3.result c.held.view_is c.self.view_is c.in-Listener-for_type.is c.sends-3.ensures

pub returns-in-Route-for_type : goal.returns-in-Route-for_type
returns-in-Route-for_type g c = sends_at g.V.Variant.NAME Route c.sends-4.result c.held.view_is c.self.view_is c.in-Route-for_type.is c.sends-4.ensures

pub returns-in-Secret-for_type : goal.returns-in-Secret-for_type
returns-in-Secret-for_type g c = sends_at g.V.Variant.NAME Secret c.sends-5.result c.held.view_is c.self.view_is c.in-Secret-for_type.is c.sends-5.ensures
