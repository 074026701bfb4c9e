use Rattle.std.proofs.lemmas.Result.{on_ok_weaker, MatchResult-weaker}
use Rattle.xds_resource.specs.Any.{write_type, stamped_write}
use Rattle.xds_resource.specs.PerType.{at}
use Rattle.xds_program.proofs.Taking.{after_ok, after_err, RefusesWrite-joining}
use Rattle.xds_program.proofs.gathering.take_write.Goals as goal

pub returns-clause-taken : goal.returns-clause-taken
returns-clause-taken c =
    let w = c.in_ok-write.write in
    on_ok_weaker c.join.result (λ left. ((write_type w, stamped_write w), c.in_ok-write.ensures.ok, left)) (after_ok _ c.join.result _ _ c.join.ensures.joins)

pub returns-clause-refused : goal.returns-clause-refused
returns-clause-refused c =
    let w = c.in_ok-write.write in
    MatchResult-weaker c.join.result (after_err _ c.join.result _ _ c.join.ensures.joins) (λ _ h. h)
    (λ e why. RefusesWrite-joining (at c.args.catalogues.now) c.args.line.now (write_type w, stamped_write w) e c.in_ok-write.ensures.ok why)
