use Rattle.xds_resource.specs.declared.types.TypeName.TheVariants.{Cluster, Endpoint, Listener, Route, Secret}
use Rattle.xds_core.proofs.StreamsFitting.{taken_fits}
use Rattle.xds_core.proofs.talk.Talk.take.Goals as goal

pub returns-in-Cluster-for_type-clause-fits : goal.returns-in-Cluster-for_type-clause-fits
returns-in-Cluster-for_type-clause-fits g c = taken_fits g.V.Variant.NAME Cluster c.take.new.session c.take.result c.self.view_is c.take.ensures.fits

pub returns-in-Endpoint-for_type-clause-fits : goal.returns-in-Endpoint-for_type-clause-fits
returns-in-Endpoint-for_type-clause-fits g c = taken_fits g.V.Variant.NAME Endpoint c.take-2.new.session c.take-2.result c.self.view_is c.take-2.ensures.fits

pub returns-in-Listener-for_type-clause-fits : goal.returns-in-Listener-for_type-clause-fits
returns-in-Listener-for_type-clause-fits g c = taken_fits g.V.Variant.NAME Listener c.take-3.new.session c.take-3.result c.self.view_is c.take-3.ensures.fits

pub returns-in-Route-for_type-clause-fits : goal.returns-in-Route-for_type-clause-fits
returns-in-Route-for_type-clause-fits g c = taken_fits g.V.Variant.NAME Route c.take-4.new.session c.take-4.result c.self.view_is c.take-4.ensures.fits

pub returns-in-Secret-for_type-clause-fits : goal.returns-in-Secret-for_type-clause-fits
returns-in-Secret-for_type-clause-fits g c = taken_fits g.V.Variant.NAME Secret c.take-5.new.session c.take-5.result c.self.view_is c.take-5.ensures.fits
