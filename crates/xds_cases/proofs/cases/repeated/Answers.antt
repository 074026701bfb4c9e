use Rattle.std.proofs.Common.{◌++◌, ◌∙◌, List, [], ◌∷◌, map, ap, sym, string_bytes, Ok, arith, codes, refl}
use Rattle.std.specs.Prelude.{ok_or}
use Rattle.std.specs.Option.{option_map}
use Rattle.std.proofs.lemmas.List.{map-append}
use Rattle.std.proofs.lemmas.Result.{err_from_is_err_and}
use Rattle.std.proofs.lemmas.Iterator.Consumers.{YieldsList-end, YieldsList-turn}
use Rattle.xds_resource.specs.declared.refusal.Refusal.TheVariants.{BadScript}
use Rattle.xds_cases.specs.Texts.{Text}
use Rattle.xds_cases.specs.Cases.{repeats_of}
use Rattle.xds_cases.proofs.Cutting.{cut_at, not_cut, YieldsList-split}
use Rattle.xds_cases.proofs.Repeating.{repeat_more, repeated-none, repeated-some, repeated-refused, refused_on}
use Rattle.xds_cases.proofs.cases.repeated.Goals as goal

pub returns-in_default : goal.returns-in_default
returns-in_default c = ap (λ o. ok_or o BadScript) (repeated-none c.args.text.now (not_cut c.cut.result _ (cc) c.cut.ensures)) ∙ ap Ok (sym c.in_ok-from_str.ensures.ok)

pub loop-part-preserved : goal.loop-part-preserved
loop-part-preserved c =
    ap (λ (ts : List Text). option_map (λ r. string_bytes c.in_ok-all.all ++ r) (repeats_of ts)) (map-append (λ x. x.now) c.loop-part.yielded (c.in-Some-part.part ∷ []))
    ∙ repeat_more (string_bytes c.in_ok-all.all) (string_bytes c.loop-part.all) (string_bytes c.push_repeat.new.all) (map (λ x. x.now) c.loop-part.yielded) c.in-Some-part.part.now c.loop-part.invariant c.in_ok-push_repeat.ensures.ok

pub returns-in_err-push_repeat : goal.returns-in_err-push_repeat
returns-in_err-push_repeat c =
    let turn = YieldsList-turn (YieldsList-split (codes "<") c.in-Some.repeats.now _ (omega arith) c.into_iter-part-iterator.ensures.into_iter_gives c.split-part-items.ensures.text c.split-part-items.ensures.has_more c.split-part-items.ensures.pattern refl)
    c.loop-part.yielded _ c.loop-part.yielded_by _ _ c.in-Some-part.part c.in-Some-part.is c.next.ensures.steps in
    let exit = err_from_is_err_and c.from_residual-in_err-push_repeat.result c.from_residual-in_err-push_repeat.ensures.1 in
    refused_on string_bytes c.from_residual-in_err-push_repeat.result _ exit.0 c.in_err-push_repeat.field-0.0 exit.1 exit.2
    (repeated-refused c.args.text.now c.in-Some.before.now c.in-Some.repeats.now _ c.in-Some-part.part.now c.in_err-push_repeat.field-0.0 (cut_at c.cut.result _ _ c.in-Some.is c.cut.ensures) turn.0 turn.1 c.in_err-push_repeat.ensures.refused)

pub returns : goal.returns
returns c =
    let end = YieldsList-end (YieldsList-split (codes "<") c.in-Some.repeats.now _ (omega arith) c.into_iter-part-iterator.ensures.into_iter_gives c.split-part-items.ensures.text c.split-part-items.ensures.has_more c.split-part-items.ensures.pattern refl)
    c.loop-part.yielded _ c.loop-part.yielded_by _ _ c.in-None.is c.next.ensures.steps in
    ap (λ o. ok_or o BadScript) (repeated-some c.args.text.now c.in-Some.before.now c.in-Some.repeats.now (string_bytes c.loop-part.all) (cut_at c.cut.result _ _ c.in-Some.is c.cut.ensures)
    (ap (λ (ts : List Text). option_map (λ r. c.in-Some.before.now ++ r) (repeats_of ts)) (sym end.0)
    ∙ ap (λ (t : Text). option_map (λ r. t ++ r) (repeats_of (map (λ x. x.now) c.loop-part.yielded))) (sym c.in_ok-all.ensures.ok) ∙ c.loop-part.invariant))
