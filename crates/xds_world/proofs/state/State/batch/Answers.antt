use Rattle.std.proofs.Common.{◌<◌, ◌≤◌, ◌-◌, Some, sym, ap, subst, ◌∙◌}
use Rattle.std.specs.Prelude.{option_map}
use Rattle.xds_world.specs.Worlds.{placed}
use Rattle.xds_world.proofs.Places.{placed_zero, beyond, within}
use Rattle.xds_world.proofs.state.State.batch.Goals as goal

pub returns-then-place-eq0-clause-ok : goal.returns-then-place-eq0-clause-ok
returns-then-place-eq0-clause-ok g c = sym (ap (λ p. option_map (λ x. x.1) (placed c.args.self.now.pool p)) c.if-place-eq0.true ∙ ap (option_map (λ x. x.1)) (placed_zero c.args.self.now.pool))

pub returns-then-index-len-clause-ok : goal.returns-then-index-len-clause-ok
returns-then-index-len-clause-ok g c =
    let pool = c.self.inside.pool in
    let above = subst (λ n. n ≤ c.args.place - 1) (c.len.ensures ∙ pool.ok.0) c.if-index-len.true in
    sym (ap (λ w. option_map (λ x. x.1) (placed w.pool c.args.place)) (sym c.self.view_is) ∙ ap (option_map (λ x. x.1)) (beyond pool.items c.args.place c.if-place-eq0.false above))

pub returns-clause-ok : goal.returns-clause-ok
returns-clause-ok g c =
    let pool = c.self.inside.pool in
    let below = subst (λ n. c.args.place - 1 < n) (c.len.ensures ∙ pool.ok.0) c.if-index-len.false in
    ap Some c.in_ok-try_copy.ensures.ok ∙ sym (ap (λ w. option_map (λ x. x.1) (placed w.pool c.args.place)) (sym c.self.view_is) ∙ ap (option_map (λ x. x.1)) (within pool.items c.args.place c.index.result.now c.if-place-eq0.false below c.index.ensures))
