use Rattle.std.proofs.lemmas.Result.{on_ok_weaker}
use Rattle.xds_resource.specs.Any.{write_type, stamped_write}
use Rattle.xds_changes.proofs.write_lines.take_write.Goals as goal

pub returns-clause-taken : goal.returns-clause-taken
returns-clause-taken c =
    let w = c.in_ok-write.write in
    on_ok_weaker c.push.result (λ left. ((write_type w, stamped_write w), c.in_ok-write.ensures.ok, left)) c.push.ensures.ok
