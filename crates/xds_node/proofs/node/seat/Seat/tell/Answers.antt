use Rattle.std.proofs.Common.{subst}
use Rattle.std.specs.Prelude.{All, Contains}
use Rattle.xds_node.specs.Holdings.{recorded}
use Rattle.xds_node.specs.Told.{Calls}
use Rattle.xds_node.proofs.node.seat.Seat.tell.Goals as goal

pub returns-clause-stands : goal.returns-clause-stands
returns-clause-stands g c = subst (λ (s : Calls). All (Contains (recorded c.args.token.now)) s.told) c.self.view_is c.tell.ensures.stands
