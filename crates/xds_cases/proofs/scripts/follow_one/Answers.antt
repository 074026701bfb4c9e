use Rattle.std.proofs.Common.{[], ◌∷◌, List, map, refl, sym, subst}
use Rattle.std.proofs.lemmas.List.{map-append}
use Rattle.std.proofs.lemmas.Iterator.Splits.{YieldsList-from_lines}
use Rattle.std.proofs.lemmas.Iterator.Consumers.{YieldsList-end}
use Rattle.xds_cases.specs.Texts.{Text}
use Rattle.xds_cases.specs.Scripts.{AreAnswered}
use Rattle.xds_cases.proofs.Telling.{answered_more}
use Rattle.xds_cases.proofs.scripts.follow_one.Goals as goal

pub loop-line-init : goal.loop-line-init
loop-line-init g c = refl

pub loop-line-preserved : goal.loop-line-preserved
loop-line-preserved g c =
    subst (λ (ls : List Text). AreAnswered g.S.Script.may_answer c.begin-script.result ls c.follow_line.new.script)
    (sym (map-append (λ x. x.now) c.loop-line.yielded (c.in-Some.line ∷ [])))
    (answered_more g.S.Script.may_answer c.begin-script.result c.loop-line.script c.follow_line.new.script (map (λ x. x.now) c.loop-line.yielded) c.in-Some.line.now
    c.loop-line.invariant c.in_ok-follow_line.ensures)

pub returns : goal.returns
returns g c =
    let end = YieldsList-end (YieldsList-from_lines c.args.story.now (cc)) c.loop-line.yielded _ c.loop-line.yielded_by _ _ c.in-None.is c.next.ensures.steps in (
      c.begin-script.result,
      c.loop-line.script,
      c.begin-script.ensures,
      subst (λ (ls : List Text). AreAnswered g.S.Script.may_answer c.begin-script.result ls c.loop-line.script) end.0 c.loop-line.invariant,
    )
