use Rattle.std.proofs.Common.{ℕ, ◌<◌, List, [], length, get_or, Bor, sym, ap, ◌∙◌, arith}
use Rattle.std.proofs.lemmas.Bool.{not-false}
use Rattle.std.specs.Str.{bytes_eq}
use Rattle.xds_interest.proofs.Again.{in_turn_more}
use Rattle.xds_interest.proofs.names.NameSet.are_these.Goals as goal

pub loop-name-preserved : goal.loop-name-preserved
loop-name-preserved c =
    let none : Bor (List ℕ) = record { ref_ptr = (0, 0); now = [] } in
    let text : List ℕ = (get_or c.args.texts.now c.loop-name.passed none).now in
    let within : c.loop-name.passed < length c.args.texts.now = omega (arith, c.loop-name.invariant.1, c.if-passed-texts.false) in (
      in_turn_more c.args.texts.now c.loop-name.passed _ c.loop-name.name-iterator c.next.new.self c.in-Some.name.now none within c.in-Some.ensures.steps
          (ap (λ q. bytes_eq q text) (sym c.as_str.ensures.value) ∙ not-false (bytes_eq c.as_str.result.now text) (sym c.ne.ensures ∙ c.if-ne.false)) c.loop-name.invariant.0,
      omega (arith, within),
    )
