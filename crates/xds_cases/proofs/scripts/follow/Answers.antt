use Rattle.std.proofs.Common.{All, ◌≡◌, ◌∙◌, List, ℕ, Bor, subst, sym, arith, codes, refl}
use Rattle.std.proofs.lemmas.List.Elements.{All-map, All-push}
use Rattle.std.proofs.lemmas.Iterator.Consumers.{YieldsList-end}
use Rattle.xds_cases.specs.Texts.{Text, pieces}
use Rattle.xds_cases.specs.Cases.{unfolded}
use Rattle.xds_cases.specs.Scripts.{IsFollowed}
use Rattle.xds_cases.proofs.Cutting.{YieldsList-split}
use Rattle.xds_cases.proofs.CasesRead.{ok_same}
use Rattle.xds_cases.proofs.scripts.follow.Goals as goal

pub loop-story-preserved : goal.loop-story-preserved
loop-story-preserved g c =
    All-push (λ (x : Bor (List ℕ)). IsFollowed g.S.Script.may_begin g.S.Script.may_answer x.now) c.loop-story.yielded c.in-Some.story c.loop-story.invariant c.in_ok-follow_one.ensures

pub returns : goal.returns
returns g c =
    let Right = IsFollowed g.S.Script.may_begin g.S.Script.may_answer in
    let whole : c.as_str.result.now ≡ unfolded c.args.stories.now = c.as_str.ensures.value ∙ sym (ok_same _ _ c.in_ok-whole.ensures) in
    let end = YieldsList-end (YieldsList-split (codes "\n\n") c.as_str.result.now _ (omega arith) c.into_iter-story-iterator.ensures.into_iter_gives c.split-story-items.ensures.text c.split-story-items.ensures.has_more c.split-story-items.ensures.pattern refl)
    c.loop-story.yielded _ c.loop-story.yielded_by _ _ c.in-None.is c.next.ensures.steps in
    subst (λ (t : Text). All Right (pieces (codes "\n\n") t)) whole (subst (All Right) end.0 (All-map Right (λ x. x.now) c.loop-story.yielded c.loop-story.invariant))
