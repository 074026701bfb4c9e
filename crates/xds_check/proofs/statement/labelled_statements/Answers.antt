use Rattle.std.proofs.Common.{[], ◌∷◌, ◌++◌, length, map, refl, sym, ap, ◌∙◌, subst, append_assoc, arith}
use Rattle.std.specs.List.{AllZip}
use Rattle.std.specs.Vec.Iter.{into_iter_items}
use Rattle.std.proofs.lemmas.List.{append-nil, nil_from_length}
use Rattle.std.proofs.lemmas.List.Elements.{All-push, All-nil}
use Rattle.std.proofs.lemmas.Slice.Zip.{all_zipped_more}
use Rattle.xds_message.specs.Responses.{resource_of}
use Rattle.xds_ledger.specs.declared.variant.VariantName.TheVariants.{Delta}
use Rattle.xds_check.specs.Answers.{IsStatement}
use Rattle.xds_check.specs.Texts.{IsLabelled}
use Rattle.xds_json.proofs.Lists.{AllZip-middle}
use Rattle.xds_check.proofs.Finding.{Finds-refused}
use Rattle.xds_check.proofs.statement.labelled_statements.Goals as goal

pub loop-resource-init : goal.loop-resource-init
loop-resource-init c =
    let gives = c.into_iter-resource-iterator.ensures.into_iter_gives in
    ([], rw gives.0 refl, rw c.new-statements.ensures.items tt, gives.1 ∙ c.args.resources.ok.0 ∙ ap length (sym gives.0), rw c.new-statements.ensures.items (All-nil (IsStatement Delta c.args.kind)))

pub loop-resource-preserved : goal.loop-resource-preserved
loop-resource-preserved c =
    let before = c.loop-resource.invariant in
    let done = before.0 in
    let step = c.in-Some.ensures.steps in
    let d = resource_of c.in-Some.resource in
    let shorter = ap length step.0 in (
      done ++ d ∷ [],
      before.1 ∙ ap (λ vs. done ++ map resource_of vs) step.0 ∙ sym (append_assoc done (d ∷ []) (map resource_of (into_iter_items c.next.new.self))),
      rw c.in_ok-push.ensures.items (all_zipped_more (IsLabelled c.args.kind) done c.loop-resource.statements.items d c.in_ok-labelled_statement.field-0 before.2 c.in_ok-labelled_statement.ensures.found),
      omega (arith, step.1, before.3, shorter),
      rw c.in_ok-push.ensures.items (All-push (IsStatement Delta c.args.kind) c.loop-resource.statements.items c.in_ok-labelled_statement.field-0 before.4 c.in_ok-labelled_statement.ensures.sound),
    )

pub returns-in_err-labelled_statement-clause-found : goal.returns-in_err-labelled_statement-clause-found
returns-in_err-labelled_statement-clause-found c =
    let before = c.loop-resource.invariant in
    let all = before.1 ∙ ap (λ vs. before.0 ++ map resource_of vs) c.in-Some.ensures.steps.0 in
    Finds-refused (AllZip (IsLabelled c.args.kind) (map resource_of c.args.resources.items)) (IsLabelled c.args.kind (resource_of c.in-Some.resource)) _ (λ x. x) c.from_residual.result c.labelled_statement.result c.in_err-labelled_statement.field-0.0 c.from_residual.ensures.1 (grind arith) c.labelled_statement.ensures.found
    (λ xs zipped. AllZip-middle (IsLabelled c.args.kind) before.0 (resource_of c.in-Some.resource) (map resource_of (into_iter_items c.next.new.self)) xs (subst (λ ds. AllZip (IsLabelled c.args.kind) ds xs) all zipped))

pub returns-clause-found : goal.returns-clause-found
returns-clause-found c =
    let before = c.loop-resource.invariant in
    let none = nil_from_length _ (sym before.3 ∙ c.in-None.ensures.steps.0) in
    let all = before.1 ∙ ap (λ vs. before.0 ++ map resource_of vs) none ∙ append-nil before.0 in
    subst (λ ds. AllZip (IsLabelled c.args.kind) ds c.loop-resource.statements.items) (sym all) before.2

pub returns-clause-sound : goal.returns-clause-sound
returns-clause-sound c = c.loop-resource.invariant.4
