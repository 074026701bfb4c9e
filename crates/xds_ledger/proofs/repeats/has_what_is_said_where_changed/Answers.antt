use Rattle.std.proofs.Common.{◌≡◌, List, ℕ, Bool, true, sym, ap, ◌∙◌}
use Rattle.xds_ledger.specs.Repeats.{has_what_is_said}
use Rattle.xds_ledger.proofs.LookedAt.{none_looked_at, one_looked_at, all_looked_at}
use Rattle.xds_ledger.proofs.repeats.has_what_is_said_where_changed.Goals as goal

pub loop-number-init : goal.loop-number-init
loop-number-init g c = none_looked_at (λ name. has_what_is_said c.args.refused.now c.args.variant g.T.ResourceType.TYPE c.args.interest.now c.args.catalogue.now.entries c.args.beliefs.now name ≡ true) c.args.catalogue.now c.args.mark

pub loop-number-preserved : goal.loop-number-preserved
loop-number-preserved g c =
    let test : List ℕ → Bool = has_what_is_said c.args.refused.now c.args.variant g.T.ResourceType.TYPE c.args.interest.now c.args.catalogue.now.entries c.args.beliefs.now in
    one_looked_at (λ name. test name ≡ true) c.args.catalogue.now c.args.mark c.loop-number.after c.in-Some.number c.in-Some.write.now c.in-Some.ensures.numbered c.in-Some.ensures.next
    (ap test (sym c.name.ensures.name) ∙ sym c.has_what_is_said.ensures ∙ c.if-not-has_what_is_said.false) c.loop-number.invariant

pub returns-clause-all : goal.returns-clause-all
returns-clause-all g c =
    let test : List ℕ → Bool = has_what_is_said c.args.refused.now c.args.variant g.T.ResourceType.TYPE c.args.interest.now c.args.catalogue.now.entries c.args.beliefs.now in
    λ _. all_looked_at (λ name. test name ≡ true) c.args.catalogue.now c.args.mark c.loop-number.after c.in_default.ensures.none c.loop-number.invariant
