use Rattle.std.proofs.Common.{◌≡◌, ℕ, List, Bool, refl, sym, ap, ◌∙◌, arith}
use Rattle.std.specs.Prelude.{◌||◌, not}
use Rattle.xds_flows.proofs.Mergings.{merging-more, merging-start, merging-stopped, one_at_most}
use Rattle.xds_flows.proofs.replication.from_peer.exchange_in.Goals as goal
use Rattle.xds_flows.proofs.replication.from_peer.exchange_in.Goals.{then-lost, else-lost}

pub loop-init : goal.loop-init
loop-init g c = (merging-start _ _ _ _ _, refl, refl, omega arith)

pub returns-then-not-acknowledge-clause-merged : goal.returns-then-not-acknowledge-clause-merged
returns-then-not-acknowledge-clause-merged g c =
    let loses : c.if-lost.lost ≡ (c.loop.lost || not c.merge-drops.result.1) =
    elim c.if-lost.branch [
      | then-lost w ↦ w.lost-is ∙ w.if-lost.true ∙ ap (λ b. b || not c.merge-drops.result.1) (sym w.if-lost.true)
      | else-lost w ↦ w.lost-is ∙ ap (λ b. b || not c.merge-drops.result.1) (sym w.if-lost.false)
    ] in
    merging-stopped _ _ _ _ _ _ _ _ _ _ _ _ _ _ _ _ _ _ _ _ c.in-Some-take.parcel _ c.merge-drops.ensures c.in-Some-take.ensures.taken refl loses c.acknowledge.result _ c.loop.invariant.0
    (ap (λ (p : List ℕ × Bool). p.1) c.parcel.view_is) c.acknowledge.ensures.receipt

pub loop-preserved : goal.loop-preserved
loop-preserved g c =
    let loses : c.if-lost.lost ≡ (c.loop.lost || not c.merge-drops.result.1) =
    elim c.if-lost.branch [
      | then-lost w ↦ w.lost-is ∙ w.if-lost.true ∙ ap (λ b. b || not c.merge-drops.result.1) (sym w.if-lost.true)
      | else-lost w ↦ w.lost-is ∙ ap (λ b. b || not c.merge-drops.result.1) (sym w.if-lost.false)
    ] in
    let few = one_at_most c.in-Some-take.parcel c.merge-drops.ensures.0 c.merge-drops.ensures.1 c.merge-drops.result c.merge-drops.ensures.4 in (
      merging-more _ _ _ _ _ _ _ _ _ _ _ _ _ _ _ _ _ _ _ _ c.in-Some-take.parcel _ c.merge-drops.ensures c.in-Some-take.ensures.taken refl loses c.acknowledge.result _ c.loop.invariant.0
          (ap (λ (p : List ℕ × Bool). p.1) c.parcel.view_is) c.if-not-acknowledge.false c.acknowledge.ensures.receipt,
      c.in-Some-take.ensures.end ∙ c.loop.invariant.1,
      c.acknowledge.ensures.end ∙ c.loop.invariant.2,
      omega (arith, few, c.loop.invariant.3, c.if-dropped-eq-MOST_DROPPED.false),
    )
