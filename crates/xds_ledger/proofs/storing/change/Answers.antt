use Rattle.std.proofs.Common.{◌≡◌, ℕ, List, Some, None, Bor, map, string_bytes, ap, ◌∙◌}
use Rattle.std.specs.Prelude.{unwrap_or}
use Rattle.std.specs.FinMap as finmap
use Rattle.xds_resource.specs.Names.{put_each}
use Rattle.xds_ledger.specs.Overlay.{Differences, told_in}
use Rattle.xds_ledger.specs.Storing.{new_names, removed_all, stored_all}
use Rattle.xds_ledger.proofs.Stored.{new_names_are_absent, changed}
use Rattle.xds_ledger.proofs.storing.change.Goals as goal

abbrev text_of : Bor (List ℕ) → List ℕ
text_of n = n.now

pub add_all-requires : goal.add_all-requires
add_all-requires c =
    let o = c.args.base.now in
    let d = c.args.differences.now in
    let names = map string_bytes c.deref.result.now in
    let new : map text_of c.deref-2.result.now ≡ new_names o c.args.changes d names = ap (map text_of) c.deref-2.ensures.value ∙ c.in_ok-new.ensures.ok in
    ap (removed_all d) new ∙ new_names_are_absent o c.args.changes d names

pub returns-clause-ok : goal.returns-clause-ok
returns-clause-ok c = λ q.
    let o = c.args.base.now in
    let d = c.args.differences.now in
    let names : map string_bytes c.deref.result.now ≡ finmap.keys c.args.changes = ap (map string_bytes) c.deref.ensures.value ∙ c.in_ok-names.ensures.ok in
    let names_again : map string_bytes c.deref-3.result.now ≡ finmap.keys c.args.changes = ap (map string_bytes) c.deref-3.ensures.value ∙ c.in_ok-names.ensures.ok in
    let new : map text_of c.deref-2.result.now ≡ new_names o c.args.changes d (finmap.keys c.args.changes) =
    ap (map text_of) c.deref-2.ensures.value ∙ c.in_ok-new.ensures.ok ∙ ap (new_names o c.args.changes d) names in
    ap (λ (x : Differences). unwrap_or (finmap.get x q) (told_in o q))
    (c.store_all.ensures
    ∙ (λ i. stored_all o ((c.in_ok-add_all.ensures.ok ∙ ap (put_each (λ name. Some None) d) new) i) c.args.changes (names_again i)))
    ∙ changed o c.args.changes d q
