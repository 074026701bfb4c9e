use Rattle.std.proofs.Common.{◌≡◌, ℕ, List, Bool, false, sym, ap, ◌∙◌}
use Rattle.xds_ledger.specs.Owed.{is_owed}
use Rattle.xds_ledger.proofs.LookedAt.{none_looked_at, one_looked_at, all_looked_at}
use Rattle.xds_ledger.proofs.owed.is_owed_by_change.Goals as goal

pub loop-number-init : goal.loop-number-init
loop-number-init g c = none_looked_at (λ name. is_owed c.args.variant g.T.ResourceType.TYPE c.args.interest.now c.args.catalogue.now.entries c.args.beliefs.now name ≡ false) c.args.catalogue.now c.args.mark

pub loop-number-preserved : goal.loop-number-preserved
loop-number-preserved g c =
    let test : List ℕ → Bool = is_owed c.args.variant g.T.ResourceType.TYPE c.args.interest.now c.args.catalogue.now.entries c.args.beliefs.now in
    one_looked_at (λ name. test name ≡ false) c.args.catalogue.now c.args.mark c.loop-number.after c.in-Some.number c.in-Some.write.now c.in-Some.ensures.numbered c.in-Some.ensures.next
    (ap test (sym c.name.ensures.name) ∙ sym c.name_owed.ensures ∙ c.if-name_owed.false) c.loop-number.invariant

pub returns-clause-none : goal.returns-clause-none
returns-clause-none g c =
    let test : List ℕ → Bool = is_owed c.args.variant g.T.ResourceType.TYPE c.args.interest.now c.args.catalogue.now.entries c.args.beliefs.now in
    λ _. all_looked_at (λ name. test name ≡ false) c.args.catalogue.now c.args.mark c.loop-number.after c.in_default.ensures.none c.loop-number.invariant

pub returns-then-name_owed-clause-found : goal.returns-then-name_owed-clause-found
returns-then-name_owed-clause-found g c = λ _. (c.name.result.now, sym c.name_owed.ensures ∙ c.if-name_owed.true)
