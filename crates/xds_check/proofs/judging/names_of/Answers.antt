use Rattle.std.proofs.Common.{map, true, Some, sym, ap, ◌∙◌}
use Rattle.std.specs.Prelude.{is_some}
use Rattle.std.specs.FinMap as finmap
use Rattle.xds_resource.specs.Names.{put_each}
use Rattle.std.proofs.lemmas.List.{drop_all}
use Rattle.xds_check.proofs.Marking.{marked_names}
use Rattle.xds_check.proofs.judging.names_of.Goals as goal

pub returns-clause-ok : goal.returns-clause-ok
returns-clause-ok c name =
    ap (λ m. is_some (finmap.get m name)) (sym (ap (λ rest. put_each (λ _. Some true) c.loop-statement.names (map (λ x. x.name) rest)) (drop_all c.loop-statement.statement-index c.args.statements.now c.loop-statement-test.false)) ∙ c.loop-statement.invariant)
    ∙ marked_names (map (λ x. x.name) c.args.statements.now) name
