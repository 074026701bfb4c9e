use Rattle.std.proofs.Common.{sym, ap, subst, ◌∙◌}
use Rattle.std.specs.FinMap as finmap
use Rattle.xds_catalogue.specs.Holdings.{Holdings}
use Rattle.xds_check.specs.LiveNames.{AreLive}
use Rattle.xds_check.proofs.LiveNames.{joined_beside}
use Rattle.xds_check.proofs.judge.take_one.Goals as goal

pub put_name-requires : goal.put_name-requires
put_name-requires g c =
    let w = c.args.write.now in
    let same = ap (λ (h : Holdings). finmap.remove h.entries w.name) c.in_ok-join.ensures.ok ∙ joined_beside c.args.catalogue.now w c.requires.live.named in
    let here = subst (λ n. AreLive (finmap.remove c.args.catalogue.now.entries n) c.take_name.new.live_names) c.name-name.ensures.name c.in_ok-take_name.ensures.ok in
    subst (λ n. AreLive (finmap.remove c.join.new.catalogue.entries n) c.take_name.new.live_names) (sym c.name-name.ensures.name) (subst (λ m. AreLive m c.take_name.new.live_names) (sym same) here)
