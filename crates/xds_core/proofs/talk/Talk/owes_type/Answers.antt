use Rattle.xds_resource.specs.declared.types.TypeName.TheVariants.{Cluster, Endpoint, Listener, Route, Secret}
use Rattle.xds_core.proofs.StreamsFitting.{fits_at}
use Rattle.xds_core.proofs.talk.Talk.owes_type.Goals as goal

pub owes-requires : goal.owes-requires
owes-requires g c = fits_at g.V.Variant.NAME Cluster c.held.view_is c.self.view_is c.requires

pub owes-requires-2 : goal.owes-requires-2
owes-requires-2 g c = fits_at g.V.Variant.NAME Endpoint c.held.view_is c.self.view_is c.requires

pub owes-requires-3 : goal.owes-requires-3
owes-requires-3 g c = fits_at g.V.Variant.NAME Listener c.held.view_is c.self.view_is c.requires

pub owes-requires-4 : goal.owes-requires-4
owes-requires-4 g c = fits_at g.V.Variant.NAME Route c.held.view_is c.self.view_is c.requires

pub owes-requires-5 : goal.owes-requires-5
owes-requires-5 g c = fits_at g.V.Variant.NAME Secret c.held.view_is c.self.view_is c.requires
