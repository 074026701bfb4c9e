use Rattle.std.proofs.Common.{sym, ap, subst}
use Rattle.std.specs.Prelude.{IsSome}
use Rattle.std.specs.FinMap as finmap
use Rattle.xds_core.proofs.StreamSteps.{there}
use Rattle.xds_script.specs.ModelSeen.{wish_of}
use Rattle.xds_world.specs.Peers.{peer_changed}
use Rattle.xds_world.proofs.Edits.{lent, put_over, with_peers, put_peers}
use Rattle.xds_world.proofs.Steps.{change_within}
use Rattle.xds_world.proofs.state.State.change.Goals as goal

pub set-requires : goal.set-requires
set-requires g c = subst (λ m. IsSome (finmap.get m c.args.client)) (sym c.in-Some.ensures.found) (there c.self.inside.peers c.args.client c.blank_peer.result)

pub returns-clause-ok : goal.returns-clause-ok
returns-clause-ok g c =
    let n = c.args.client in
    let p = c.in-Some.peer in
    let left = c.change-changed.new.self in
    let x = c.blank_peer.result in
    let view = ap (λ w. w.peers) c.self.view_is in
    let has = lent c.self.inside.peers c.args.self.now.peers n c.replace.result p view c.replace.ensures.old c.in-Some.is in
    let puts = put_over c.self.inside.peers c.args.self.now.peers _ c.set.new.self n x left view c.in-Some.ensures.found c.set.ensures in
    change_within g.A.Accept.accepts c.args.self.now _ c.args.client c.args.kind (wish_of c.args.wish.now) c.change-changed.result (put_peers c.args.self.now n (peer_changed c.args.kind (wish_of c.args.wish.now)) p x left has c.set.new.self puts c.change-changed.result _ (λ i. with_peers (c.self.view_is i) c.set.new.self) c.change-changed.ensures.ok)
