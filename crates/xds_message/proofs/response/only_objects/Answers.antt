use Rattle.std.proofs.Common.{◌≡◌, List, get_or, All, is_some, refl, sym, ap, ◌∙◌, subst, arith}
use Rattle.std.proofs.lemmas.List.{take_all}
use Rattle.std.proofs.lemmas.List.Elements.{All-nil, All-more, All-map}
use Rattle.serde_json.specs.Find.{as_object}
use Rattle.serde_json.specs.View.{view}
use Rattle.serde_json.specs.declared.value.Value.{Value}
use Rattle.xds_json.specs.Spelling.{IsObject}
use Rattle.xds_json.proofs.Lists.{no_objects}
use Rattle.xds_message.proofs.response.only_objects.Goals as goal

pub loop-value-init : goal.loop-value-init
loop-value-init c = All-nil (λ (v : Value). IsObject (view v))

pub loop-value-preserved : goal.loop-value-preserved
loop-value-preserved c =
    All-more (λ (v : Value). IsObject (view v)) c.deref-value-items.result.now c.loop-value.value-index c.value-item.result c.loop-value-test.true c.loop-value.invariant (subst (λ (v : Value). IsObject (view v)) c.value-item.is (sym c.if-not-is_object.ensures))

pub returns : goal.returns
returns c =
    let all = subst (λ (vs : List Value). All (λ v. IsObject (view v)) vs) (take_all c.loop-value.value-index c.deref-value-items.result.now c.loop-value-test.false ∙ c.deref-value-items.ensures.value) c.loop-value.invariant in
    (refl, All-map IsObject view c.args.values.items all)

pub returns-then-not-is_object : goal.returns-then-not-is_object
returns-then-not-is_object c = λ other.
    let items = c.deref-value-items.ensures.value in
    let is : c.value-item.result ≡ get_or c.args.values.items c.loop-value.value-index c.value-item.result = c.value-item.is ∙ ap (λ vs. get_or vs c.loop-value.value-index c.value-item.result) items in
    (refl, λ y w. no_objects c.args.values.items c.loop-value.value-index c.value-item.result (omega arith) (sym (c.if-not-is_object.ensures ∙ ap (λ v. is_some (as_object (view v))) is)) (subst (All IsObject) (sym w.0) w.1))
