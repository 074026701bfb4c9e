use Rattle.std.proofs.Common.{◌++◌, length, map, string_bytes, rules, sym, ap, ◌∙◌, arith, append-nil}
use Rattle.std.proofs.lemmas.List.{nil_from_length}
use Rattle.std.specs.Option.{option_map}
use Rattle.std.specs.Vec.Iter.{into_iter_items}
use Rattle.serde_json.specs.Data.{string}
use Rattle.serde_json.specs.View.{view}
use Rattle.xds_json.proofs.Lists.{as_str_is, map-moved, map-twice, text_in_middle}
use Rattle.xds_json.proofs.fields.texts_in.Goals as goal

-- the item that comes next stands behind the texts that moved so far
pub returns-in_default : goal.returns-in_default
returns-in_default c = λ other. (
  search rules,
  λ texts all.
      let before = c.loop-item.invariant.0 in
      let texts_are = map-twice string_bytes string c.loop-item.texts.items in
      let stands = ap (λ ds. ds ++ map view (into_iter_items c.loop-item.item-iterator)) (sym texts_are) ∙ before ∙ all in
      text_in_middle (map string_bytes c.loop-item.texts.items) (view c.in-Some.item) (map view (into_iter_items c.next.new.self)) texts
      (ap (λ vs. map string (map string_bytes c.loop-item.texts.items) ++ map view vs) (sym c.in-Some.ensures.steps.0) ∙ stands)
      (sym c.text_in.ensures ∙ ap (option_map string_bytes) c.in_default.is),
)

pub loop-item-preserved : goal.loop-item-preserved
loop-item-preserved c =
    let before = c.loop-item.invariant in
    let step = c.in-Some.ensures.steps in
    let shorter = ap length step.0 in (
      rw c.in_ok-push.ensures.items (
          map-moved (λ t. string (string_bytes t)) view c.loop-item.texts.items c.in-Some-text_in.text c.in-Some.item (into_iter_items c.next.new.self)
          (as_str_is (view c.in-Some.item) (string_bytes c.in-Some-text_in.text) (sym (ap (option_map string_bytes) c.in-Some-text_in.is) ∙ c.text_in.ensures))
          ∙ ap (λ vs. map (λ t. string (string_bytes t)) c.loop-item.texts.items ++ map view vs) (sym step.0) ∙ before.0
          ),
      omega (arith, step.1, before.1, shorter),
    )

pub returns : goal.returns
returns c =
    let before = c.loop-item.invariant in
    let none = nil_from_length _ (sym before.1 ∙ c.in-None.ensures.steps.0) in
    sym (
    sym (map-twice string_bytes string c.loop-item.texts.items) ∙ sym (append-nil (map (λ t. string (string_bytes t)) c.loop-item.texts.items))
    ∙ ap (λ vs. map (λ t. string (string_bytes t)) c.loop-item.texts.items ++ map view vs) (sym none) ∙ before.0
    )
