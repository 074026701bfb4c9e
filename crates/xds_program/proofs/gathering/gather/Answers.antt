use Rattle.std.proofs.Common.{List, ℕ, refl, subst}
use Rattle.std.proofs.lemmas.Result.{IfOk-weaker, IfErr-weaker}
use Rattle.xds_resource.specs.PerType.{at}
use Rattle.xds_program.specs.Gathered.{IsReadTo}
use Rattle.xds_program.proofs.Reading.{begun, behind_again}
use Rattle.xds_program.proofs.gathering.gather.Goals as goal

pub returns-in-Ok-clause-gathered : goal.returns-in-Ok-clause-gathered
returns-in-Ok-clause-gathered c =
    let rest = c.without_last_feed-rest.result.now in
    let none = begun c.args.input.now rest _ _ c.without_last_feed-rest.ensures c.begin-reading.ensures.0 c.begin-reading.ensures.1 in
    let read = subst (λ (l : List ℕ). IsReadTo c.args.input.now l c.take_lines.new.reading.line (at c.take_lines.new.reading.catalogues)) (behind_again rest rest rest c.in-Ok.taken refl refl) (c.in-Ok.ensures.taken c.args.input.now none) in
    IfOk-weaker c.finish.result _ _ (λ g all. all c.args.input.now read) c.finish.ensures.gathered

pub returns-in-Ok-clause-refused : goal.returns-in-Ok-clause-refused
returns-in-Ok-clause-refused c =
    let rest = c.without_last_feed-rest.result.now in
    let none = begun c.args.input.now rest _ _ c.without_last_feed-rest.ensures c.begin-reading.ensures.0 c.begin-reading.ensures.1 in
    let read = subst (λ (l : List ℕ). IsReadTo c.args.input.now l c.take_lines.new.reading.line (at c.take_lines.new.reading.catalogues)) (behind_again rest rest rest c.in-Ok.taken refl refl) (c.in-Ok.ensures.taken c.args.input.now none) in
    IfErr-weaker c.finish.result _ _ (λ fault all. all c.args.input.now read) c.finish.ensures.refused

pub returns-in-Err-clause-refused : goal.returns-in-Err-clause-refused
returns-in-Err-clause-refused c =
    c.in-Err.ensures.refused c.args.input.now (begun c.args.input.now c.without_last_feed-rest.result.now _ _ c.without_last_feed-rest.ensures c.begin-reading.ensures.0 c.begin-reading.ensures.1)
