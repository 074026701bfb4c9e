use Rattle.std.proofs.Common.{sym, ap, subst}
use Rattle.std.specs.Prelude.{IsSome}
use Rattle.std.specs.FinMap as finmap
use Rattle.xds_core.proofs.StreamSteps.{there}
use Rattle.xds_world.specs.Peers.{peer_up}
use Rattle.xds_world.proofs.Edits.{lent, put_over, with_peers, put_one}
use Rattle.xds_world.proofs.state.State.drop_request.Goals as goal

pub set-requires : goal.set-requires
set-requires g c = subst (λ m. IsSome (finmap.get m c.args.client)) (sym c.in-Some.ensures.found) (there c.self.inside.peers c.args.client c.blank_peer.result)

pub returns : goal.returns
returns g c =
    let n = c.args.client in
    let p = c.in-Some.peer in
    let left = c.drop_request-dropped.new.self in
    let x = c.blank_peer.result in
    let view = ap (λ w. w.peers) c.self.view_is in
    let has = lent c.self.inside.peers c.args.self.now.peers n c.replace.result p view c.replace.ensures.old c.in-Some.is in
    let puts = put_over c.self.inside.peers c.args.self.now.peers _ c.set.new.self n x left view c.in-Some.ensures.found c.set.ensures in
    put_one c.args.self.now n peer_up p x left has c.set.new.self puts c.drop_request-dropped.result _ (λ i. with_peers (c.self.view_is i) c.set.new.self) (c.drop_request-dropped.ensures)
