use Rattle.std.proofs.Common.{map, string_bytes, true, Some, sym, ap, ◌∙◌}
use Rattle.std.specs.Prelude.{is_some}
use Rattle.std.specs.FinMap as finmap
use Rattle.xds_resource.specs.Names.{put_each}
use Rattle.std.proofs.lemmas.List.{drop_all}
use Rattle.xds_check.proofs.Marking.{marked_names}
use Rattle.xds_check.proofs.marks.marks_of.Goals as goal

pub returns-clause-ok : goal.returns-clause-ok
returns-clause-ok c name =
    ap (λ m. is_some (finmap.get m name)) (sym (ap (λ rest. put_each (λ _. Some true) c.loop-name.marks (map string_bytes rest)) (drop_all c.loop-name.name-index c.args.names.now c.loop-name-test.false)) ∙ c.loop-name.invariant)
    ∙ marked_names (map string_bytes c.args.names.now) name
