use Rattle.std.proofs.Common.{Some, map, ap, ◌∙◌}
use Rattle.xds_trace.specs.Telling.{record_of}
use Rattle.xds_trace.proofs.Sites.{journal_legal, journal_keeps}
use Rattle.xds_trace.proofs.worlds.of_world.Goals as goal

pub returns-in-Ok-clause-keeps : goal.returns-in-Ok-clause-keeps
returns-in-Ok-clause-keeps g c =
    let test = g.A.Accept.accepts in
    let hs = c.args.world.now in
    let told = ap (λ l. Some (map record_of l)) c.as_slice.ensures.value ∙ c.in-Some.ensures in
    journal_keeps test hs c.args.replica (map record_of c.as_slice.result.now) (c.journals_are_legal.ensures.legal test hs) told c.in-Ok.trace c.in-Ok.ensures.told c.in-Ok.ensures.keeps

pub returns-in-Err-clause-refused : goal.returns-in-Err-clause-refused
returns-in-Err-clause-refused g c =
    let test = g.A.Accept.accepts in
    let hs = c.args.world.now in
    let told = ap (λ l. Some (map record_of l)) c.as_slice.ensures.value ∙ c.in-Some.ensures in
    c.in-Err.ensures.legal c.args.replica (journal_legal test hs c.args.replica (map record_of c.as_slice.result.now) (c.journals_are_legal.ensures.legal test hs) told)
