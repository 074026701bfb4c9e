use Rattle.std.proofs.Common.{List, ℕ, true, sym, ap, subst, ◌∙◌}
use Rattle.std.proofs.lemmas.Result.{on_ok_weaker}
use Rattle.xds_check.specs.LiveNames.{AreLive, with_name_of}
use Rattle.xds_check.proofs.LiveNames.{put_back, left_out, without_absent, body_dead, body_lives}
use Rattle.xds_check.proofs.judge.put_name.Goals as goal

pub returns-then-is_none-clause-ok : goal.returns-then-is_none-clause-ok
returns-then-is_none-clause-ok g c =
    left_out c.args.catalogue.now.entries c.args.name.now c.in-Some.write.now c.args.live_names.now c.get.ensures.named (sym c.in-Some.ensures.found)
    (body_dead (λ s. s.now) c.body.result c.in-Some.write.now c.is_none.result c.body.ensures c.is_none.ensures c.if-is_none.true) c.requires

pub returns-else-is_none-clause-ok : goal.returns-else-is_none-clause-ok
returns-else-is_none-clause-ok g c =
    let name = c.args.name.now in
    let lives = body_lives (λ s. s.now) c.body.result c.in-Some.write.now c.is_none.result c.body.ensures c.is_none.ensures c.if-is_none.false in
    on_ok_weaker c.set.result (λ is. put_back c.args.catalogue.now.entries name c.in-Some.write.now c.args.live_names.now c.set.new.self c.get.ensures.named (sym c.in-Some.ensures.found) lives
    (is ∙ ap (λ (gs : List (List ℕ)). with_name_of true name gs c.args.live_names.now) c.groups.ensures) c.requires) c.set.ensures.ok

pub returns-in-None-clause-ok : goal.returns-in-None-clause-ok
returns-in-None-clause-ok g c =
    subst (λ m. AreLive m c.args.live_names.now) (without_absent c.args.catalogue.now.entries c.args.name.now (sym c.in-None.ensures.found)) c.requires
