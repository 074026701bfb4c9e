use Rattle.std.proofs.Common.{◌≡◌, true, map, take, sym, ap, ◌∙◌}
use Rattle.std.proofs.lemmas.Bool.{not-false}
use Rattle.std.specs.Str.{bytes_eq}
use Rattle.std.specs.String.{string_bytes}
use Rattle.xds_interest.specs.Interests.{is_star}
use Rattle.xds_interest.proofs.Listed.{texts_more}
use Rattle.xds_interest.proofs.Again.{alike_star, alike_name}
use Rattle.xds_interest.proofs.names.NameSet.are_in_turn.Goals as goal

pub loop-text-preserved-then-is_star : goal.loop-text-preserved-then-is_star
loop-text-preserved-then-is_star c =
    alike_star c.args.kind (map string_bytes (take c.loop-text.text-index c.args.texts.now)) _ _ _ (string_bytes c.text-item.result) (texts_more c.args.texts.now _ c.text-item.result c.loop-text-test.true c.text-item.is)
    (ap (is_star c.args.kind) (sym c.deref.ensures) ∙ sym c.is_star.ensures ∙ c.if-is_star.true) c.loop-text.invariant

pub loop-text-preserved : goal.loop-text-preserved
loop-text-preserved c =
    let same : bytes_eq (string_bytes c.in-Some.name.now) (string_bytes c.text-item.result) ≡ true =
    (λ i. bytes_eq (sym c.as_str.ensures.value i) (sym c.as_str-in-loop-text.ensures.value i)) ∙ not-false _ (sym c.ne.ensures ∙ c.if-ne.false) in
    alike_name c.args.kind (map string_bytes (take c.loop-text.text-index c.args.texts.now)) _ _ (map string_bytes c.loop-text.left) (map string_bytes c.next.new.self) (string_bytes c.in-Some.name.now) (string_bytes c.text-item.result)
    (texts_more c.args.texts.now _ c.text-item.result c.loop-text-test.true c.text-item.is)
    (ap (is_star c.args.kind) (sym c.deref.ensures) ∙ sym c.is_star.ensures ∙ c.if-is_star.false) (ap (map string_bytes) c.in-Some.ensures.steps) same c.loop-text.invariant
