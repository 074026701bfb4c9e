use Rattle.std.proofs.Common.{◌≡◌, ℕ, List, false, map, string_bytes, sym, ap, ◌∙◌}
use Rattle.std.specs.FinMap as finmap
use Rattle.std.specs.FinMap.{entries-from_sorted}
use Rattle.xds_resource.specs.Names.{put_all}
use Rattle.xds_resource.specs.Writes.{text_cmp}
use Rattle.xds_ledger.specs.Believing.{Names, versions_of, beliefs_after}
use Rattle.xds_ledger.specs.Changes.{Changes, believed_now, changes_left, changes_unsure, change_as}
use Rattle.xds_ledger.proofs.Changing.{changed_by_name}
use Rattle.xds_ledger.proofs.changes.changes_after.Goals as goal

pub returns-clause-ok : goal.returns-clause-ok
returns-clause-ok g c = λ before is name.
    let n = c.names.inside in
    let pairs : List (List ℕ × List ℕ) = map (λ p. (p.0.now, p.1.now)) n.versions.now in
    let s = n.interest.now in
    let t = n.touched.now in
    let b = c.args.beliefs.now in
    let left = map string_bytes c.names-2.result in
    let mentioned = map string_bytes n.mentioned in
    let some : t.all ≡ false = ap (λ (x : Names). x.touched.all) c.names.view_is ∙ c.requires.some in
    ap (λ (x : Names). finmap.get (beliefs_after x before) name) (sym c.names.view_is)
    ∙ changed_by_name s t c.args.changes b before left mentioned (versions_of pairs) some c.names-2.ensures.names is name
    ∙ ap (λ (m : Changes). believed_now m b name)
    ((λ i. put_all change_as (changes_unsure s t (changes_left s b c.args.changes left) mentioned) (entries-from_sorted text_cmp pairs c.names.invariant i))
    ∙ sym (c.in_ok-next.ensures.ok ∙ ap (λ (m : Changes). put_all change_as m pairs) (c.in_ok-unsure.ensures.ok ∙ ap (λ (m : Changes). changes_unsure s t m mentioned) c.in_ok-left.ensures.ok)))
