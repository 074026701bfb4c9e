use Rattle.std.proofs.Common.{◌≡◌, sym, ap, subst}
use Rattle.std.specs.Prelude.{IsSome, IfOk, option_map}
use Rattle.std.specs.FinMap as finmap
use Rattle.xds_core.proofs.StreamSteps.{there}
use Rattle.xds_world.specs.Calls.{Happened}
use Rattle.xds_world.specs.Peers.{peer_answered}
use Rattle.xds_world.proofs.Edits.{lent, put_over, with_peers, put_peers}
use Rattle.xds_world.proofs.state.State.answer.Goals as goal

pub set-requires : goal.set-requires
set-requires g c = subst (λ m. IsSome (finmap.get m c.args.client)) (sym c.in-Some.ensures.found) (there c.self.inside.peers c.args.client c.blank_peer.result)

pub returns-clause-ok : goal.returns-clause-ok
returns-clause-ok g c =
    let n = c.args.client in
    let p = c.in-Some.peer in
    let left = c.answer-answered.new.self in
    let x = c.blank_peer.result in
    let view = ap (λ w. w.peers) c.self.view_is in
    let has = lent c.self.inside.peers c.args.self.now.peers n c.replace.result p view c.replace.ensures.old c.in-Some.is in
    let puts = put_over c.self.inside.peers c.args.self.now.peers _ c.set.new.self n x left view c.in-Some.ensures.found c.set.ensures in
    let seen : option_map (λ d. d.now) c.as_ref.result ≡ c.args.answer = c.as_ref.ensures.value in
    let told = subst (λ a. IfOk c.answer-answered.result (λ b. Happened p b left (peer_answered g.A.Accept.accepts c.args.kind a p))) seen c.answer-answered.ensures.ok in
    put_peers c.args.self.now n (peer_answered g.A.Accept.accepts c.args.kind c.args.answer) p x left has c.set.new.self puts c.answer-answered.result _ (λ i. with_peers (c.self.view_is i) c.set.new.self) told
