use Rattle.std.proofs.Common.{List, ℕ, false, sym, ap, subst, ◌∙◌}
use Rattle.std.proofs.lemmas.Result.{on_ok_weaker}
use Rattle.xds_check.specs.LiveNames.{AreLive, with_name_of}
use Rattle.xds_check.proofs.LiveNames.{taken_out, without_absent}
use Rattle.xds_check.proofs.judge.take_name.Goals as goal

pub returns-in-Some-clause-ok : goal.returns-in-Some-clause-ok
returns-in-Some-clause-ok g c =
    let name = c.args.name.now in
    on_ok_weaker c.set.result (λ is. taken_out c.args.catalogue.now.entries name c.in-Some.write.now c.args.live_names.now c.set.new.self (sym c.in-Some.ensures.found)
    (is ∙ ap (λ (gs : List (List ℕ)). with_name_of false name gs c.args.live_names.now) c.groups.ensures) c.requires) c.set.ensures.ok

pub returns-in-None-clause-ok : goal.returns-in-None-clause-ok
returns-in-None-clause-ok g c =
    subst (λ m. AreLive m c.args.live_names.now) (sym (without_absent c.args.catalogue.now.entries c.args.name.now (sym c.in-None.ensures.found))) c.requires
