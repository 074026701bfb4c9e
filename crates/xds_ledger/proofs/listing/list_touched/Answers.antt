use Rattle.std.proofs.Common.{◌≡◌, ℕ, List, false, map, string_bytes, sym, ap, subst, ◌∙◌}
use Rattle.std.specs.FinMap as finmap
use Rattle.std.specs.FinSet as set
use Rattle.std.specs.Prelude.{None}
use Rattle.xds_ledger.specs.Accepting.{is_named_since}
use Rattle.xds_ledger.specs.Ledgers.{Names}
use Rattle.xds_ledger.specs.Listed.{Listed}
use Rattle.xds_ledger.proofs.Suffices.{mark_with, mark_said, firsts_of, neither_listed}
use Rattle.xds_ledger.proofs.listing.list_touched.Goals as goal

pub returns-clause-mark : goal.returns-clause-mark
returns-clause-mark g c =
    let mark : Listed → ℕ = λ l. l.mark in
    ap mark c.in_ok-all.ensures.ok ∙ mark_said c.in_ok-here.here (map (λ p. p.0.now) c.names.inside.versions.now) ∙ ap mark c.in_ok-here.ensures.ok
    ∙ mark_with c.in_ok-since.since (map string_bytes c.names-2.result) ∙ c.in_ok-since.ensures.mark

pub returns-clause-names : goal.returns-clause-names
returns-clause-names g c = λ q out.
    let n = c.names.inside in
    let pairs : List (List ℕ × List ℕ) = map (λ p. (p.0.now, p.1.now)) n.versions.now in
    let firsts : List (List ℕ) = map (λ p. p.0.now) n.versions.now in
    let parts = neither_listed c.in_ok-since.since c.in_ok-here.here c.in_ok-all.all (map string_bytes c.names-2.result) pairs firsts n.touched.now.names q c.names.invariant
    (firsts_of (λ p. p.0.now) (λ p. p.1.now) n.versions.now) c.names-2.ensures.names c.in_ok-here.ensures.ok c.in_ok-all.ensures.ok out in
    subst (λ (x : Names). (is_named_since c.args.sent.now q ≡ false) × (set.contains x.touched.names q ≡ false) × (finmap.get x.versions q ≡ None)) c.names.view_is
    (sym (c.in_ok-since.ensures.names q) ∙ parts.0, parts.1, parts.2)
