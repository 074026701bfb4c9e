use Rattle.std.proofs.Common.{◌≡◌, ℕ, List, refl, map, string_bytes, ap, subst, ◌∙◌}
use Rattle.xds_ledger.specs.Variants.{is_whole}
use Rattle.xds_ledger.specs.Ledgers.{Names}
use Rattle.xds_ledger.specs.Lists.{Books, ListsNames, listed_after}
use Rattle.xds_ledger.proofs.Suffices.{made_in_steps, firsts_of, list_has_names}
use Rattle.xds_ledger.proofs.ledger.Ledger.listed_wider.Goals as goal

pub returns-clause-ok : goal.returns-clause-ok
returns-clause-ok g c =
    let v = g.V.Variant.NAME in
    let t = g.T.ResourceType.TYPE in
    let now : Books = c.args.self.now in
    let accepting = c.args.accepts in
    let n = c.names.inside in
    let pairs : List (List ℕ × List ℕ) = map (λ p. (p.0.now, p.1.now)) n.versions.now in
    let firsts : List (List ℕ) = map (λ p. p.0.now) n.versions.now in
    let touched = map string_bytes c.names-2.result in
    let mentioned = map string_bytes n.mentioned in
    let steps : c.list_changes.result ≡ listed_after now.account accepting (is_whole v t) n.touched.now.all touched mentioned firsts now.listed =
    made_in_steps now.account now.listed c.in_ok-start.start c.in_ok-named.named c.in_ok-said.said c.in_ok-told.told c.in_ok-held.held c.list_changes.result accepting accepting
    (is_whole v t) n.touched.now.all c.all.result c.changes_all-all.result touched (map string_bytes c.in_ok-clone.field-0) firsts
    (c.in_ok-start.ensures.ok ∙ ap (λ (b : Books). b.listed) c.self.view_is) c.in_ok-named.ensures.ok c.in_ok-said.ensures.ok refl c.in_ok-told.ensures.ok c.changes_all-all.ensures c.in_ok-held.ensures.ok c.all.ensures c.list_changes.ensures
    ∙ (λ i. listed_after now.account accepting (is_whole v t) n.touched.now.all touched (map string_bytes (c.in_ok-clone.ensures.cases i)) firsts now.listed) in
    subst (λ (x : Names). ListsNames v t now accepting x c.list_changes.result) c.names.view_is
    (list_has_names v t now accepting n.interest.now n.touched.now touched mentioned firsts pairs c.list_changes.result c.names.invariant (firsts_of (λ p. p.0.now) (λ p. p.1.now) n.versions.now) c.names-2.ensures.names steps)
