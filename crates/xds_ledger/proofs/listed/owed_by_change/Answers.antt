use Rattle.std.proofs.Common.{◌≡◌, ℕ, List, Bool, Option, Some, None, sym, ap, subst, ◌∙◌}
use Rattle.std.specs.Prelude.{if◌then◌else◌}
use Rattle.std.specs.FinMap as finmap
use Rattle.xds_ledger.specs.Owed.{is_owed}
use Rattle.xds_ledger.proofs.Fitting.{found_owed}
use Rattle.xds_ledger.proofs.Walking.{IsWalkedTo, walk_begins, walk_further, walk_ends}
use Rattle.xds_ledger.proofs.listed.owed_by_change.Goals as goal

pub loop-number-init : goal.loop-number-init
loop-number-init g c =
    let h = c.args.catalogue.now in
    let f : List ℕ → Option ℕ = λ name. if is_owed c.args.variant g.T.ResourceType.TYPE c.args.interest.now h.entries c.args.beliefs.now name then finmap.get h.latest name else None in
    subst (IsWalkedTo h c.args.mark c.args.mark f finmap.empty) (sym c.new-kept.ensures) (walk_begins h c.args.mark f finmap.empty)

pub loop-number-preserved : goal.loop-number-preserved
loop-number-preserved g c =
    let h = c.args.catalogue.now in
    let owed : List ℕ → Bool = is_owed c.args.variant g.T.ResourceType.TYPE c.args.interest.now h.entries c.args.beliefs.now in
    let f : List ℕ → Option ℕ = λ name. if owed name then finmap.get h.latest name else None in
    let name = c.name-in-Some.result.now in
    let here : c.name_owed-owed.result ≡ owed name = c.name_owed-owed.ensures ∙ ap owed (c.name.ensures.name ∙ sym c.name-in-Some.ensures.name) in
    let numbered : Some c.in-Some.number ≡ finmap.get h.latest name = sym (ap (finmap.get h.latest) c.name-in-Some.ensures.name ∙ c.in-Some.ensures.next.numbered) in
    walk_further h c.args.mark f finmap.empty c.loop-number.last c.in-Some.number c.in-Some.write.now name (if c.name_owed-owed.result then Some c.in-Some.number else None) c.loop-number.kept c.put_if.new.names
    c.in-Some.ensures.numbered c.in-Some.ensures.next c.name-in-Some.ensures.name (λ i. if here i then numbered i else None) c.in_ok-put_if.ensures.ok c.loop-number.invariant

pub returns-clause-ok : goal.returns-clause-ok
returns-clause-ok g c =
    let h = c.args.catalogue.now in
    let f : List ℕ → Option ℕ = λ name. if is_owed c.args.variant g.T.ResourceType.TYPE c.args.interest.now h.entries c.args.beliefs.now name then finmap.get h.latest name else None in
    found_owed h c.args.mark c.loop-number.kept f (walk_ends h c.args.mark f finmap.empty c.loop-number.last c.loop-number.kept c.in_default.ensures.none c.loop-number.invariant)
