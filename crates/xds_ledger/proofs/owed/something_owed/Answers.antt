use Rattle.std.proofs.Common.{◌≡◌, ℕ, List, true, false, sym, subst, ◌∙◌}
use Rattle.xds_ledger.specs.Owed.{is_owed}
use Rattle.xds_ledger.specs.Listed.{is_since}
use Rattle.xds_ledger.proofs.SomethingOwed.{owed_listed, owed_else}
use Rattle.xds_ledger.proofs.owed.something_owed.Goals as goal

pub returns-then-listed_owed : goal.returns-then-listed_owed
returns-then-listed_owed g c =
    owed_listed c.args.variant g.T.ResourceType.TYPE c.args.interest.now c.args.catalogue.now.entries c.args.beliefs.now c.args.listed.now (sym c.listed_owed.ensures ∙ c.if-listed_owed.true)

pub returns : goal.returns
returns g c =
    let v = c.args.variant in
    let t = g.T.ResourceType.TYPE in
    let s = c.args.interest.now in
    let h = c.args.catalogue.now in
    let b = c.args.beliefs.now in
    owed_else v t s h b c.args.listed.now c.changed_owed.result c.requires (sym c.listed_owed.ensures ∙ c.if-listed_owed.false) c.changed_owed.ensures.found
    (subst (λ n. c.changed_owed.result ≡ false → (q : List ℕ) → is_since h n q ≡ true → is_owed v t s h.entries b q ≡ false) c.mark.ensures c.changed_owed.ensures.none) c.changed_owed.ensures.numbered
