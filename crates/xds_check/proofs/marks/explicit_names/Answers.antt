use Rattle.std.proofs.Common.{◌≡◌, List, String, Global, [], map, string_bytes, true, Some, sym, ap, ◌∙◌}
use Rattle.std.specs.FinMap as finmap
use Rattle.xds_resource.specs.Names.{put_each}
use Rattle.xds_check.proofs.Marking.{marked_set}
use Rattle.xds_check.proofs.marks.explicit_names.Goals as goal

pub returns-clause-ok : goal.returns-clause-ok
returns-clause-ok g c =
    let all : c.loop-name.name-iterator ≡ [] = c.in-None.ensures.steps.0 in
    marked_set c.loop-name.marks (map string_bytes c.names-name-items.result) c.args.interest.now.names
    (sym (ap (λ (l : List (String Global)). put_each (λ _. Some true) finmap.empty (map string_bytes l)) c.into_iter-name-iterator.ensures.into_iter_gives)
    ∙ sym c.loop-name.invariant ∙ ap (λ (l : List (String Global)). put_each (λ _. Some true) c.loop-name.marks (map string_bytes l)) all)
    c.names-name-items.ensures.names
