use Rattle.std.proofs.Common.{◌≡◌, List, String, Global, [], map, string_bytes, sym, ap, ◌∙◌}
use Rattle.std.specs.FinMap as finmap
use Rattle.xds_resource.specs.Names.{put_each}
use Rattle.xds_ledger.specs.Overlay.{Differences}
use Rattle.xds_ledger.specs.Accepting.{change_since}
use Rattle.xds_ledger.proofs.AsOffered.{names_put}
use Rattle.xds_ledger.proofs.accepting.put_each_since.Goals as goal

pub returns-clause-ok : goal.returns-clause-ok
returns-clause-ok c = λ q.
    let f = change_since c.args.sent.now c.args.beliefs.now in
    let all : c.loop-name.name-iterator ≡ [] = c.in-None.ensures.steps.0 in
    ap (λ (m : Differences). finmap.get m q)
    (sym (ap (λ (l : List (String Global)). put_each f c.loop-name.next (map string_bytes l)) all) ∙ c.loop-name.invariant
    ∙ ap (λ (l : List (String Global)). put_each f c.args.next.now (map string_bytes l)) c.into_iter-name-iterator.ensures.into_iter_gives)
    ∙ names_put f c.args.next.now (map string_bytes c.names-names.result) c.args.touched.now.names q c.names-names.ensures.names
