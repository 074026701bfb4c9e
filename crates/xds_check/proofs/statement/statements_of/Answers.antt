use Rattle.std.proofs.Common.{[], ◌∷◌, ◌++◌, length, map, refl, sym, ap, ◌∙◌, subst, append_assoc, arith}
use Rattle.std.specs.List.{AllZip}
use Rattle.std.specs.Vec.Iter.{into_iter_items}
use Rattle.std.proofs.lemmas.List.{append-nil, nil_from_length}
use Rattle.std.proofs.lemmas.List.Elements.{All-push, All-nil}
use Rattle.std.proofs.lemmas.Slice.Zip.{all_zipped_more}
use Rattle.serde_json.specs.View.{view}
use Rattle.xds_ledger.specs.declared.variant.VariantName.TheVariants.{StateOfTheWorld}
use Rattle.xds_check.specs.Answers.{IsStatement}
use Rattle.xds_check.specs.Texts.{IsStated}
use Rattle.xds_json.proofs.Lists.{AllZip-middle}
use Rattle.xds_check.proofs.Finding.{Finds-refused}
use Rattle.xds_check.proofs.statement.statements_of.Goals as goal

pub loop-value-init : goal.loop-value-init
loop-value-init c =
    let gives = c.into_iter-value-iterator.ensures.into_iter_gives in
    ([], rw gives.0 refl, rw c.new-statements.ensures.items tt, gives.1 ∙ c.args.values.ok.0 ∙ ap length (sym gives.0), rw c.new-statements.ensures.items (All-nil (IsStatement StateOfTheWorld c.args.kind)))

pub loop-value-preserved : goal.loop-value-preserved
loop-value-preserved c =
    let before = c.loop-value.invariant in
    let done = before.0 in
    let step = c.in-Some.ensures.steps in
    let d = view c.in-Some.value in
    let shorter = ap length step.0 in (
      done ++ d ∷ [],
      before.1 ∙ ap (λ vs. done ++ map view vs) step.0 ∙ sym (append_assoc done (d ∷ []) (map view (into_iter_items c.next.new.self))),
      rw c.in_ok-push.ensures.items (all_zipped_more (IsStated c.args.kind) done c.loop-value.statements.items d c.in_ok-bare_statement.field-0 before.2 c.in_ok-bare_statement.ensures.found),
      omega (arith, step.1, before.3, shorter),
      rw c.in_ok-push.ensures.items (All-push (IsStatement StateOfTheWorld c.args.kind) c.loop-value.statements.items c.in_ok-bare_statement.field-0 before.4 c.in_ok-bare_statement.ensures.sound),
    )

pub returns-in_err-bare_statement-clause-found : goal.returns-in_err-bare_statement-clause-found
returns-in_err-bare_statement-clause-found c =
    let before = c.loop-value.invariant in
    let all = before.1 ∙ ap (λ vs. before.0 ++ map view vs) c.in-Some.ensures.steps.0 in
    Finds-refused (AllZip (IsStated c.args.kind) (map view c.args.values.items)) (IsStated c.args.kind (view c.in-Some.value)) _ (λ x. x) c.from_residual.result c.bare_statement.result c.in_err-bare_statement.field-0.0 c.from_residual.ensures.1 (grind arith) c.bare_statement.ensures.found
    (λ xs zipped. AllZip-middle (IsStated c.args.kind) before.0 (view c.in-Some.value) (map view (into_iter_items c.next.new.self)) xs (subst (λ ds. AllZip (IsStated c.args.kind) ds xs) all zipped))

pub returns-clause-found : goal.returns-clause-found
returns-clause-found c =
    let before = c.loop-value.invariant in
    let none = nil_from_length _ (sym before.3 ∙ c.in-None.ensures.steps.0) in
    let all = before.1 ∙ ap (λ vs. before.0 ++ map view vs) none ∙ append-nil before.0 in
    subst (λ ds. AllZip (IsStated c.args.kind) ds c.loop-value.statements.items) (sym all) before.2

pub returns-clause-sound : goal.returns-clause-sound
returns-clause-sound c = c.loop-value.invariant.4
